-- Turns of a lane, one after another. All of it is our own.
use Rattle.std.specs.Prelude.{◌≡◌, ℕ, zero, suc, ◌-◌, ◌^◌, ◌≤◌, Bool, true, false, Option}
use Rattle.asp_job.specs.Told.{Meaning, Told}
use Rattle.asp_core.specs.Kernel.{CoreView, RunView}
use Rattle.asp_lane.specs.declared.turn.TurnEnd.{TurnEnd}
use Rattle.asp_lane.specs.declared.turn.TurnEnd.TheVariants as turn
use Rattle.asp_lane.specs.Turns.{IsTurn}

-- whether the lane may have more to do after a turn that came to this
abbrev pub goes_on : TurnEnd → Bool
goes_on turn.Done = true
goes_on turn.More = true
goes_on _ = false

-- so many turns, each with what was in hand after the one before
abbrev pub Turned : {R Site State : Type 0} → (R → Site → Meaning) → (R → Site → State → Told → ℕ → Type 0) → ℕ →
    CoreView R Site → Option (RunView State) → ℕ → CoreView R Site → Option (RunView State) → Type 0
Turned meaning stands lane old in_hand zero new then_in_hand = (new ≡ old) × (then_in_hand ≡ in_hand)
Turned {R} {Site} {State} meaning stands lane old in_hand (suc n) new then_in_hand =
    (mid : CoreView R Site) × (held : Option (RunView State)) × (came_to : TurnEnd)
    × Turned meaning stands lane old in_hand n mid held
    × IsTurn meaning stands lane mid held new then_in_hand came_to

-- The lane took turns, of which the last came to this. Where it may have more to do there were 2^32 of them or more.
pub record HasTurned {R Site State : Type 0} (meaning : R → Site → Meaning)
    (stands : R → Site → State → Told → ℕ → Type 0) (lane : ℕ) (old : CoreView R Site)
    (in_hand : Option (RunView State)) (new : CoreView R Site) (then_in_hand : Option (RunView State)) (last : TurnEnd) :
    Type 0 where
  pub count : ℕ
  pub mid : CoreView R Site
  pub held : Option (RunView State)
  pub before : Turned meaning stands lane old in_hand count mid held
  pub last_turn : IsTurn meaning stands lane mid held new then_in_hand last
  pub many : goes_on last ≡ true → 2 ^ 32 - 1 ≤ count
