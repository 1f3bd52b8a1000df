-- What many turns leave of a core.
use Rattle.std.proofs.Common.{ℕ, ◌+◌, Option, add-one}
use Rattle.asp_job.specs.Told.{Meaning, Told}
use Rattle.asp_core.specs.Kernel.{CoreView, IsHostOf, RunView}
use Rattle.asp_lane.specs.declared.turn.TurnEnd.{TurnEnd}
use Rattle.asp_lane.specs.Rest.{Turned}
use Rattle.asp_lane.specs.Turns.{IsTurn}

module _ {R Site State : Type 0} (meaning : R → Site → Meaning) (stands : R → Site → State → Told → ℕ → Type 0) where
  -- the runner and the site stay those of the core
  pub host_stays : (lane : ℕ) (old new : CoreView R Site) (in_hand then_in_hand : Option (RunView State)) (turn : TurnEnd)
      (runner : R) (site : Site) → IsHostOf old runner site
      → IsTurn meaning stands lane old in_hand new then_in_hand turn → IsHostOf new runner site
  host_stays lane old new in_hand then_in_hand turn runner site host is =
      rw is.new_is (record { runner_is = host.runner_is; site_is = host.site_is })

  -- one turn more
  pub one_more : (lane : ℕ) (old mid new : CoreView R Site) (in_hand held then_in_hand : Option (RunView State)) (n : ℕ)
      (turn : TurnEnd) → Turned meaning stands lane old in_hand n mid held
      → IsTurn meaning stands lane mid held new then_in_hand turn
      → Turned meaning stands lane old in_hand (n + 1) new then_in_hand
  one_more lane old mid new in_hand held then_in_hand n turn before is = rw add-one (mid, held, turn, before, is)
