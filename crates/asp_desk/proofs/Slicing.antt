-- The parts of a slice.
use Rattle.std.proofs.Common.{◌≡◌, ◌≢◌, ℕ, Bool, true, false, List, refl, ap, sym, ◌∙◌, subst, inl, inr}
use Rattle.std.proofs.Common.{Option, Some, None, IsSome, IfSome, IfOk, OnErr, Result, Ok, Err}
use Rattle.vb_value.specs.declared.application.AppCall.{AppCall}
use Rattle.vb_value.specs.declared.memory.Memory.{Memory}
use Rattle.asp_job.specs.declared.entry.Entry.{Entry}
use Rattle.asp_job.specs.declared.runner.Step.{Step}
use Rattle.asp_job.specs.declared.runner.Step.TheVariants as runner
use Rattle.asp_job.specs.Keys.{told}
use Rattle.asp_job.specs.Rules.{Rules}
use Rattle.asp_job.specs.Running.{Pace}
use Rattle.asp_job.specs.Told.{Meaning, Told}
use Rattle.asp_core.specs.declared.run.Progress.{Progress}
use Rattle.asp_core.specs.declared.run.Progress.TheVariants as progress
use Rattle.asp_core.specs.declared.stop.BeginStop.{BeginStop}
use Rattle.asp_core.specs.Kernel.{CoreView, RunView, StandsAsBefore, past_of, progress_of, rules_of, wanted_by}
use Rattle.asp_desk.specs.declared.steps.Stepped.{Stepped}
use Rattle.asp_desk.specs.declared.steps.Stepped.TheVariants as step
use Rattle.asp_desk.specs.Hands.{Holds, IsUnderWay, held_number}
use Rattle.asp_desk.specs.Slices.{Goes, HasBegun, HasPaused, is_more}
use Rattle.asp_desk.specs.Steps.{Leaves, Steps, begun_of, run_of}

-- ---- what is in hand

pub free_is : {State : Type 0} (held : Option (RunView State)) → held_number held ≡ None → held ≡ None
free_is None e = refl
free_is (Some run) e = absurd cc

pub some_held : {State : Type 0} (held : Option (RunView State)) (number : ℕ) → held_number held ≡ Some number
    → IsSome held
some_held None number e = absurd cc
some_held (Some run) number e = refl

-- ---- runs that go on

wants_is : (at : Progress) → IsUnderWay at → at ≢ progress.Going → (call : AppCall) × (at ≡ progress.Wants call)
wants_is progress.Going under not = absurd (not refl)
wants_is (progress.Wants call) under not = (call, refl)
wants_is progress.Ended under not = absurd under
wants_is progress.Dead under not = absurd under

pub goes_nowhere : {State : Type 0} (pace : Pace) (meaning : Meaning) (stands : State → Told → ℕ → Type 0)
    (run : RunView State) → IsUnderWay run.progress → run.progress ≢ progress.Going
    → Goes pace meaning stands run false run
goes_nowhere pace meaning stands run under not =
    let call = wants_is run.progress under not in inr (call.0, call.1, refl, refl)

more_going : (result : Result Step Memory) → true ≡ is_more result → progress_of result ≡ progress.Going
more_going (Ok runner.More) e = refl
more_going (Ok (runner.Wants call)) e = absurd cc
more_going (Ok runner.Ended) e = absurd cc
more_going (Err memory) e = absurd cc

less_paused : (result : Result Step Memory) → false ≡ is_more result → progress_of result ≢ progress.Going
less_paused (Ok runner.More) e = absurd cc
less_paused (Ok (runner.Wants call)) e = λ is. cc
less_paused (Ok runner.Ended) e = λ is. cc
less_paused (Err memory) e = λ is. cc

under_way : (at : Progress) → at ≡ progress.Going → IsUnderWay at
under_way at is = subst IsUnderWay (sym is) tt

module _ {State : Type 0} (pace : Pace) (meaning : Meaning) (stands : State → Told → ℕ → Type 0) (run next : RunView
    State)
  where
    -- who has more to do may go on
    pub goes_further : Goes pace meaning stands run true next → IsUnderWay next.progress
    goes_further (inl gone) = under_way next.progress (gone.1.progress ∙ more_going gone.0 gone.2)
    goes_further (inr waits) = absurd (let more = waits.3 in cc)

    -- who has not, has paused
    pub pauses : (held : Option (RunView State)) → held ≡ Some next → Goes pace meaning stands run false next
        → HasPaused held
    pauses held is (inl gone) = record {
      run = next;
      held_is = is;
      paused = λ going. less_paused gone.0 gone.2 (sym gone.1.progress ∙ going);
    }
    pauses held is (inr waits) = record {
      run = next;
      held_is = is;
      paused = λ going. not_both waits.0
          (sym waits.1 ∙ ap (λ (one : RunView State). one.progress) (sym waits.2) ∙ going);
    }
      where
        not_both : (call : AppCall) → progress.Wants call ≡ progress.Going → ⊥
        not_both call e = cc

pub goes_number : {State : Type 0} (pace : Pace) (meaning : Meaning) (stands : State → Told → ℕ → Type 0)
    (run next : RunView State) (more : Bool) → Goes pace meaning stands run more next → next.number ≡ run.number
goes_number pace meaning stands run next more (inl gone) = gone.1.number
goes_number pace meaning stands run next more (inr waits) = ap (λ (one : RunView _). one.number) waits.2

-- a run that has gone on is held as it was
pub gone_holds : {R Site State : Type 0} (meaning : R → Site → Meaning)
    (stands : R → Site → State → Told → ℕ → Type 0) (core : CoreView R Site) (lane : ℕ) (run next : RunView State)
    → next.number ≡ run.number → next.stand_ins ≡ run.stand_ins
    → StandsAsBefore (stands core.runner core.site) (meaning core.runner core.site) run next
    → Holds meaning stands core lane (Some run) → Holds meaning stands core lane (Some next)
gone_holds meaning stands core lane run next number stand_ins still holds =
    let is_of = holds.run_is in
    let t = told (rules_of meaning core) (past_of core) run.number in
    let then_stands = still t is_of.stands_for in
    record {
      valid = holds.valid;
      run_is = rw number (record {
        running = is_of.running;
        stands_for = then_stands;
        stand_ins_are = stand_ins ∙ is_of.stand_ins_are;
      });
      alone = λ r running. ap Some number ∙ holds.alone r running;
    }

-- ---- after a step

waits_still : (at : Progress) (call : AppCall) → wanted_by at ≡ Some call → IsUnderWay at
waits_still progress.Going call e = tt
waits_still (progress.Wants made) call e = tt
waits_still progress.Ended call e = absurd cc
waits_still progress.Dead call e = absurd cc

-- what is then in hand is under way
pub leaves_rest : {State : Type 0} (rules : Rules) (lane : ℕ) (run : RunView State) (before after : List Entry)
    (stepped : Stepped) (held : Option (RunView State)) → Steps rules lane run before stepped after
    → Leaves run stepped held → IfSome held (λ one. IsUnderWay one.progress)
leaves_rest rules lane run before after step.Called held steps leaves =
    subst (λ h. IfSome h (λ (one : RunView _). IsUnderWay one.progress)) (sym leaves.1)
    (under_way leaves.0.progress leaves.3)
leaves_rest rules lane run before after step.Ended held steps leaves =
    subst (λ h. IfSome h (λ (one : RunView _). IsUnderWay one.progress)) (sym leaves) tt
leaves_rest rules lane run before after (step.Blocked holder) held steps leaves =
    subst (λ h. IfSome h (λ (one : RunView _). IsUnderWay one.progress)) (sym leaves)
    (waits_still run.progress steps.0 steps.1.0)
leaves_rest rules lane run before after (step.JournalFull full) held steps leaves =
    subst (λ h. IfSome h (λ (one : RunView _). IsUnderWay one.progress)) (sym leaves) tt

-- ---- a run that begins

pub begun_rests : {State E : Type 0} (done : Result (RunView State) E)
    → IfOk done (λ run. (run.progress ≡ progress.Going) × (run.turns ≡ 0))
    → IfSome (run_of done) (λ run. IsUnderWay run.progress)
begun_rests (Ok run) going = under_way run.progress going.0
begun_rests (Err refused) going = tt

pub has_begun : {State Store : Type 0} (done : Result (RunView State) (Store × BeginStop))
    (held : Option (RunView State)) → held ≡ run_of done
    → IfOk done (λ run. (run.progress ≡ progress.Going) × (run.turns ≡ 0))
    → IfOk (begun_of done) (λ number. HasBegun held number)
has_begun (Ok run) held is going =
    record { run = run; held_is = is; number_is = refl; going = going.0; turns = going.1 }
has_begun (Err refused) held is going = tt

pub none_begun : {State Store : Type 0} (done : Result (RunView State) (Store × BeginStop))
    (held : Option (RunView State)) → held ≡ run_of done → OnErr (begun_of done) (held ≡ None)
none_begun (Ok run) held is = tt
none_begun (Err refused) held is = is
