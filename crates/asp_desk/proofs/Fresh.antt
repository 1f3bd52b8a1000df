-- The hands of a new host.
use Rattle.std.proofs.Common.{ap, ◌∙◌}
use Rattle.std.proofs.Common.{◌≡◌, ℕ, zero, suc, ◌<◌, ◌≤◌, List, [], ◌∷◌, map, refl, sym, subst, arith, All, None}
use Rattle.std.proofs.Common.{get_or, length, reverse, true}
use Rattle.std.proofs.lemmas.List.Elements.{All-cons, All-map, All-nil}
use Rattle.turn_desk.specs.declared.view.Known.{Known}
use Rattle.turn_desk.specs.Histories.{AreOfLanes, own_part}
use Rattle.turn_desk.specs.Rule.{known}
use Rattle.turn_desk.specs.Shown.{DeskView, lane_view, new_lanes}
use Rattle.turn_desk.proofs.Opening.{length-fresh_lanes}
use Rattle.turn_desk.specs.Steps.{fresh_lanes}
use Rattle.asp_job.specs.declared.entry.Entry.{Entry}
use Rattle.asp_job.specs.declared.entry.What.TheVariants.{Queue}
use Rattle.asp_job.specs.declared.job.Work.TheVariants as work
use Rattle.asp_job.specs.Journal.{IsValidJournal}
use Rattle.asp_job.specs.Rules.{Rules}
use Rattle.asp_job.specs.Runs.{is_unfinished}
use Rattle.asp_job.specs.Told.{Meaning, Told}
use Rattle.asp_job.specs.Turns.{IsRunning}
use Rattle.asp_desk.specs.Hands.{Holds, HostView, IsHandOf, core_at}
use Rattle.asp_desk.specs.Opening.{first_journal, free_hand, new_hands}
use Rattle.asp_desk.proofs.Running.{before_event}

first_valid : (rules : Rules) → IsValidJournal rules (reverse first_journal)
first_valid rules = record {
  entries = (record { turn = (refl, tt); legal = tt; follows = tt }, tt);
  settled = refl;
}

none_running : (lane r : ℕ) → IsRunning (reverse first_journal) lane r → ⊥
none_running lane r running =
    let was : IsRunning [] lane r = before_event [] lane r 0 (Queue 1 work.Start 0) tt running in
    let yes : is_unfinished [] r ≡ true = was.unfinished in cc

fresh_seen : (history : List Entry) (number count : ℕ)
    → All (λ (lane : Known Entry). lane.seen ≡ history) (fresh_lanes (λ entry. entry.lane) history number count)
fresh_seen history number zero = All-nil (λ (lane : Known Entry). lane.seen ≡ history)
fresh_seen history number (suc count) = All-cons (λ (lane : Known Entry). lane.seen ≡ history)
    (known number history (own_part (λ entry. entry.lane) number history))
    (fresh_lanes (λ entry. entry.lane) history (suc number) count) refl (fresh_seen history (suc number) count)

module _ {R Site State : Type 0} (meaning : R → Site → Meaning) (stands : R → Site → State → Told → ℕ → Type 0)
    (host : HostView R Site) where
  holds_first : (lane : ℕ) → Holds {R = R} {Site = Site} {State = State} meaning stands (core_at host first_journal)
      lane None
  holds_first lane = record {
    valid = first_valid _;
    run_is = tt;
    alone = λ r running. absurd (none_running lane r running);
  }

  of_known : (lane : Known Entry) → lane.seen ≡ first_journal
      → IsHandOf {R = R} {Site = Site} {State = State} meaning stands host (free_hand (lane_view host.desk lane))
  of_known lane seen = (
    (refl, refl),
    subst (λ journal. Holds {R = R} {Site = Site} {State = State} meaning stands (core_at host journal) lane.number
        None) (sym seen)
        (holds_first lane.number),
    tt,
  )

  -- they are hands of that host
  pub new_hands_are : All (IsHandOf {R = R} {Site = Site} {State = State} meaning stands host) (new_hands host)
  new_hands_are =
      let lanes = fresh_lanes (λ (entry : Entry). entry.lane) first_journal 0 host.desk.lanes in
      let seen = fresh_seen first_journal 0 host.desk.lanes in
      All-map (IsHandOf {R = R} {Site = Site} {State = State} meaning stands host) free_hand (map (lane_view
      host.desk) lanes)
      (All-map (λ lane. IsHandOf {R = R} {Site = Site} {State = State} meaning stands host (free_hand lane))
      (lane_view host.desk) lanes
      (λ k d lt. of_known (get_or lanes k d) (seen k d lt)))

-- the journal of a new host is one of each number of lanes, and short
pub of_first : (lanes : ℕ) (journal : List Entry) → 1 ≤ lanes → journal ≡ first_journal
    → AreOfLanes (λ (entry : Entry). entry.lane) lanes journal
of_first lanes journal some is = subst (λ entries. AreOfLanes (λ (entry : Entry). entry.lane) lanes entries) (sym is)
    (All-cons (λ (entry : Entry). entry.lane < lanes) _ [] (omega arith) (All-nil (λ (entry : Entry). entry.lane <
    lanes)))

-- there are as many lanes as the desk has
pub new_lanes_many : {E F : Type 0} (lane_of : E → ℕ) (desk : DeskView F) (history : List E)
    → length (new_lanes lane_of desk history) ≡ desk.lanes
new_lanes_many lane_of desk history = mapped (lane_view desk) (fresh_lanes lane_of history 0 desk.lanes)
    ∙ length-fresh_lanes lane_of history 0 desk.lanes
  where
    mapped : {A B : Type 0} (f : A → B) (xs : List A) → length (map f xs) ≡ length xs
    mapped f [] = refl
    mapped f (x ∷ xs) = ap suc (mapped f xs)
