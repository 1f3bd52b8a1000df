-- What a turn spends of the run in hand.
use Rattle.std.proofs.Common.{◌≡◌, ℕ, ◌+◌, Bool, true, false, [], ◌∷◌, refl, subst, inl, inr, Option, Some, None}
use Rattle.std.proofs.Common.{Result, Ok, Err, IfOk}
use Rattle.vb_value.specs.declared.memory.Memory.{Memory}
use Rattle.asp_job.specs.declared.entry.EndKind.TheVariants as kind
use Rattle.asp_job.specs.declared.runner.Step.{Step}
use Rattle.asp_job.specs.declared.runner.Step.TheVariants as step
use Rattle.asp_job.specs.Journal.{end_entry}
use Rattle.asp_job.specs.Keys.{told}
use Rattle.asp_job.specs.Running.{IsWithinSlice, Pace}
use Rattle.asp_job.specs.Told.{Meaning, Told}
use Rattle.asp_core.specs.Kernel.{CoreView, RunView, grown, past_of, rules_of}
use Rattle.asp_core.specs.Slice.{IsSlice}
use Rattle.asp_job.specs.declared.entry.TheConstants.{QUANTUM}
use Rattle.asp_lane.specs.declared.turn.TurnEnd.{TurnEnd}
use Rattle.asp_lane.specs.declared.turn.TurnEnd.TheVariants as turn
use Rattle.asp_lane.specs.Slice.{EndsInTurn, SpendsTicks}

-- it came to a call or an end
abbrev pub is_some_step : Result Step Memory → Bool
is_some_step (Ok step.More) = false
is_some_step (Ok (step.Wants call)) = true
is_some_step (Ok step.Ended) = true
is_some_step (Err memory) = false

within_turn : (pace : Pace) (spent needed : ℕ) (came_to : TurnEnd) → (came_to ≡ turn.More → ⊥)
    → IsWithinSlice pace (spent + QUANTUM) needed → EndsInTurn pace spent needed came_to
within_turn pace spent needed turn.Done other within = within
within_turn pace spent needed turn.More other within = absurd (other refl)
within_turn pace spent needed turn.Idle other within = within
within_turn pace spent needed (turn.JournalFull full) other within = within
within_turn pace spent needed turn.Memory other within = within

module _ {R Site State : Type 0} (pace : R → Pace) (meaning : R → Site → Meaning)
    (stands : R → Site → State → Told → ℕ → Type 0) (lane : ℕ) (old : CoreView R Site) (run : RunView State) where
  -- the run went on for the ticks of a turn, and came to this
  abbrev pub WentOn : State → Result Step Memory → Type 0
  WentOn then_state result = IfOk result (IsSlice (pace old.runner) (meaning old.runner old.site)
      (stands old.runner old.site) QUANTUM run.state then_state)

  -- it has more to do
  pub more_ticks : (then_run : RunView State) (result : Result Step Memory) → result ≡ Ok step.More
      → WentOn then_run.state result
      → SpendsTicks pace meaning stands lane old (Some run) old (Some then_run) turn.More
  more_ticks then_run result is went spent stood =
      let slice = subst (WentOn then_run.state) is went in
      let has = slice (told (rules_of meaning old) (past_of old) run.number) spent stood in
      record { ends = inr has.step_is; goes_on = λ e. has.then_stands }

  -- it wants a call, or has ended
  pub other_ticks : (then_state : State) (result : Result Step Memory) (new : CoreView R Site)
      (then_in_hand : Option (RunView State)) (came_to : TurnEnd) → is_some_step result ≡ true
      → WentOn then_state result → (came_to ≡ turn.More → ⊥)
      → SpendsTicks pace meaning stands lane old (Some run) new then_in_hand came_to
  other_ticks then_state (Ok step.More) new then_in_hand came_to comes slice other spent stood = absurd cc
  other_ticks then_state (Ok (step.Wants call)) new then_in_hand came_to comes slice other spent stood =
      let t = told (rules_of meaning old) (past_of old) run.number in
      let has = slice t spent stood in
      record {
        ends = inr (within_turn (pace old.runner) spent ((meaning old.runner old.site).ticks t) came_to other
            has.step_is.1);
        goes_on = λ e. absurd (other e);
      }
  other_ticks then_state (Ok step.Ended) new then_in_hand came_to comes slice other spent stood =
      let t = told (rules_of meaning old) (past_of old) run.number in
      let has = slice t spent stood in
      record {
        ends = inr (within_turn (pace old.runner) spent ((meaning old.runner old.site).ticks t) came_to other
            has.step_is.1);
        goes_on = λ e. absurd (other e);
      }
  other_ticks then_state (Err memory) new then_in_hand came_to comes slice other spent stood = absurd cc

  -- it has ended for want of memory
  pub dead_ticks : (number : ℕ) (new : CoreView R Site) → number ≡ run.number
      → new ≡ grown old (end_entry (rules_of meaning old) (past_of old) lane number kind.Memory ∷ [])
      → SpendsTicks pace meaning stands lane old (Some run) new None turn.Done
  dead_ticks number new same ended spent stood = record {
    ends = inl (subst (λ n. new ≡ grown old (end_entry (rules_of meaning old) (past_of old) lane n kind.Memory ∷ []))
        same ended);
    goes_on = λ e. absurd cc;
  }
