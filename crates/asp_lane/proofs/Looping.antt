-- One turn of the run in hand, in a loop that began with another core.
use Rattle.std.proofs.Common.{◌≡◌, ℕ, true, List, refl, sym, subst, Option, Some, None, Result, Ok, Err}
use Rattle.std.proofs.Common.{OnOk}
use Rattle.asp_core.specs.Kernel.{CoreView, IsWithin, RunView, past_of, rules_of}
use Rattle.asp_lane.proofs.Called.{HasCalled, turn_calls, turn_ends, turn_stops}
use Rattle.asp_lane.proofs.Growing.{grows_more, rules_grown}
use Rattle.asp_lane.specs.declared.stop.RunStop.{RunStop}
use Rattle.asp_lane.specs.Underway.{GoesOn, Grows, IsGoingStop, has_just_ended, turn_stop}
use Rattle.asp_job.specs.declared.entry.Entry.{Entry}
use Rattle.asp_job.specs.Journal.{IsValidJournal}
use Rattle.asp_job.specs.Rules.{Rules}
use Rattle.asp_job.specs.Told.{Meaning, Told}
use Rattle.asp_lane.specs.declared.turn.TurnEnd.{TurnEnd}
use Rattle.asp_lane.specs.Turns.{Fits, IsTurn}

-- a turn after which the run goes on
pub none_is : (told : Option RunStop) → ((ended : RunStop) → told ≡ Some ended → ⊥) → told ≡ None
none_is None not_some = refl
none_is (Some ended) not_some = absurd (not_some ended refl)

module _ {R Site State : Type 0} (meaning : R → Site → Meaning) (stands : R → Site → State → Told → ℕ → Type 0)
    (lane : ℕ) (first old new : CoreView R Site) (in_hand then_in_hand : Option (RunView State)) (t : TurnEnd)
    (grows : Grows first old) (valid : IsValidJournal (rules_of meaning old) (past_of old))
    (fits : Fits meaning stands old lane in_hand)
    (is : IsTurn meaning stands lane old in_hand new then_in_hand t) where
  abbrev m : Rules
  m = rules_of meaning first

  same : rules_of meaning old ≡ m
  same = rules_grown meaning first old grows

  abbrev HasCome : List Entry → ℕ → Type 0
  HasCome past begun = HasCalled m lane (past_of first) begun past

  here : (begun : ℕ) → HasCome (past_of old) begun
      → HasCalled (rules_of meaning old) lane (past_of first) begun (past_of old)
  here begun called = subst (λ rules. HasCalled rules lane (past_of first) begun (past_of old)) (sym same) called

  pub grows_on : Grows first new
  grows_on = grows_more first old new grows (is.entries, is.new_is)

  pub loop_calls : (begun : ℕ) (held : RunView State) → then_in_hand ≡ Some held → turn_stop t ≡ None
      → IsWithin (past_of new) → HasCome (past_of old) begun → HasCome (past_of new) begun
  loop_calls begun held e none within called =
      subst (λ rules. HasCalled rules lane (past_of first) begun (past_of new)) same
      (turn_calls meaning stands lane old new (past_of first) begun valid.entries (here begun called) in_hand held t
      fits (subst (λ some. IsTurn meaning stands lane old in_hand new some t) e is) none within)

  ends_so : (begun : ℕ) → then_in_hand ≡ None → turn_stop t ≡ None → HasCome (past_of old) begun
      → has_just_ended begun (past_of new) ≡ true → GoesOn m lane (past_of first) begun (past_of new)
  ends_so begun e none called ended =
      subst (λ rules. GoesOn rules lane (past_of first) begun (past_of new)) same
      (turn_ends meaning stands lane old new (past_of first) begun valid.entries (here begun called) in_hand t fits
      (subst (λ some. IsTurn meaning stands lane old in_hand new some t) e is) none ended)

  pub loop_ends : {T : Type 0} → (result : Result T RunStop) (begun : ℕ) → then_in_hand ≡ None
      → turn_stop t ≡ None → HasCome (past_of old) begun → OnOk result (has_just_ended begun (past_of new) ≡ true)
      → OnOk result (GoesOn m lane (past_of first) begun (past_of new))
  loop_ends (Ok given) begun e none called ended = ends_so begun e none called ended
  loop_ends (Err stopped) begun e none called ended = tt

  pub loop_stops : (begun : ℕ) (ended : RunStop) → turn_stop t ≡ Some ended → HasCome (past_of old) begun
      → IsGoingStop m lane (past_of first) begun ended
  loop_stops begun ended e called =
      subst (λ rules. IsGoingStop rules lane (past_of first) begun ended) same
      (turn_stops meaning stands lane old new (past_of first) begun valid.entries (here begun called) in_hand
      then_in_hand t ended fits is valid e)
