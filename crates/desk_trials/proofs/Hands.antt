-- Workers that are made of the hands of a host, and hands that come back with it.
use Rattle.std.proofs.Common.{◌≡◌, ℕ, List, All, map, subst, sym}
use Rattle.std.proofs.lemmas.List.Elements.{All-map}
use Rattle.asp_job.specs.declared.entry.Entry.{Entry}
use Rattle.asp_job.specs.Told.{Meaning, Told}
use Rattle.asp_core.specs.Kernel.{RunView}
use Rattle.asp_desk.specs.Crews.{with_place}
use Rattle.asp_desk.specs.declared.worker.WorkerOf.{WorkerOf}
use Rattle.asp_desk.specs.Hands.{Fixed, HandView, HostView, IsHandOf}

module _ {R Site State : Type 0} (meaning : R → Site → Meaning) (stands : R → Site → State → Told → ℕ → Type 0)
    (host : HostView R Site) where
  abbrev Hand : Type 0
  Hand = HandView Entry (Fixed R Site) (RunView State)

  -- each worker has a hand of the host's where each of these hands is one
  pub placed : {T : Type 0} (hands : List Hand) (start : T) (crew : List (WorkerOf Hand T)) → crew ≡ map (with_place start) hands
      → All (IsHandOf meaning stands host) hands → All (λ worker. IsHandOf meaning stands host worker.hand) crew
  placed {T} hands start crew is all =
      subst (λ (workers : List (WorkerOf Hand T)). All (λ worker. IsHandOf meaning stands host worker.hand) workers) (sym is)
      (All-map (λ (worker : WorkerOf Hand T). IsHandOf meaning stands host worker.hand) (with_place start) hands all)

  -- what came back with the host are its hands still
  pub carried : (hands : List Hand) (back : HostView R Site) (those : List Hand) → back ≡ host → those ≡ hands
      → All (IsHandOf meaning stands host) hands → All (IsHandOf meaning stands back) those
  carried hands back those same are all =
      subst (λ (it : HostView R Site). All (IsHandOf meaning stands it) those) (sym same)
      (subst (λ (items : List Hand). All (IsHandOf meaning stands host) items) (sym are) all)
