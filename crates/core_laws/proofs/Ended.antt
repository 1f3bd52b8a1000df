-- A run that is unfinished is ended with no memory.
use Rattle.std.proofs.Common.{◌≡◌, ℕ, ◌==◌, ◌||◌, Bool, true, false, List, [], ◌∷◌, Some, inl, inr}
use Rattle.std.proofs.Common.{refl, subst, ◌∙◌}
use Rattle.std.proofs.lemmas.Bool.{cases_Bool, eq-eqb, eqb-true}
use Rattle.asp_job.specs.declared.entry.Entry.{Entry}
use Rattle.asp_job.specs.declared.entry.Stage.{Stage}
use Rattle.asp_job.specs.declared.entry.Stage.TheVariants.{Undrawn, Waiting, Unfinished, Ended}
use Rattle.asp_job.specs.declared.entry.What.{What}
use Rattle.asp_job.specs.declared.entry.What.TheVariants.{Take}
use Rattle.asp_job.specs.declared.job.Work.{Work}
use Rattle.asp_job.specs.History.{held_by, with_lane}
use Rattle.asp_job.specs.Journal.{AreRight, IsValidJournal, past_after}
use Rattle.asp_job.specs.Output.{answer_of_run}
use Rattle.asp_job.specs.Rules.{Rules}
use Rattle.asp_job.specs.Runs.{has_ended, is_stage_ended, is_stage_unfinished, is_taken, is_unfinished}
use Rattle.asp_job.specs.Runs.{stage_of, takes}
use Rattle.asp_job.specs.Turns.{IsRunning, IsTake, MayFollow, owed}
use Rattle.asp_core.specs.Kernel.{IsWithin}
use Rattle.asp_core.specs.Waits.{AreThose}
use Rattle.core_laws.specs.Laws.{IsEndedWithoutMemory, ended}

-- ---- the laws of a core that this one stands on

-- a run that has ended stays so
abbrev pub EndStays : Type 0
EndStays = (rules : Rules) (past entries : List Entry) (run : ℕ) → AreRight rules (past_after past entries)
    → has_ended past run ≡ true → (has_ended (past_after past entries) run ≡ true)
    × (answer_of_run rules (past_after past entries) run ≡ answer_of_run rules past run)

abbrev pub HolderRuns : Type 0
HolderRuns = (rules : Rules) (past : List Entry) (run : ℕ) → AreRight rules past → (held_by past).holder ≡ Some run
    → is_unfinished past run ≡ true

-- ---- what was handed out has ended

take_right : (rules : Rules) (past : List Entry) (lane run : ℕ) (list : List (Work × ℕ))
    → MayFollow rules past list (with_lane lane (Take run)) → IsTake past lane run
take_right rules past lane run [] may = may
take_right rules past lane run (first ∷ rest) may = absurd (let is = may.0 in cc)

take_ended : (rules : Rules) (past : List Entry) (lane : ℕ) (what : What) (run : ℕ)
    → MayFollow rules past (owed rules past) (with_lane lane what) → takes run what ≡ true → has_ended past run ≡ true
take_ended rules past lane (Take one) run may takes = subst (λ k. has_ended past k ≡ true) (eqb-true one run takes)
    (take_right rules past lane one (owed rules past) may).ended
take_ended rules past lane _ run may takes = absurd cc

later : (a b : Bool) → a ≡ false → (a || b) ≡ true → b ≡ true
later true b a_is is = absurd cc
later false b a_is is = is

taken_ended : EndStays → (rules : Rules) (past : List Entry) → AreRight rules past → (run : ℕ)
    → is_taken past run ≡ true → has_ended past run ≡ true
taken_ended stays rules [] right run taken = absurd cc
taken_ended stays rules (entry ∷ past) right run taken = elim (cases_Bool (takes run entry.what)) [
  | inl takes ↦ (stays rules past (entry ∷ []) run right
      (take_ended rules past entry.lane entry.what run right.0.turn takes)).0
  | inr other ↦ (stays rules past (entry ∷ []) run right
      (taken_ended stays rules past right.1 run (later (takes run entry.what) (is_taken past run) other taken))).0
]

-- ---- the run itself

-- no stage is both
apart : (stage : Stage) → is_stage_unfinished stage ≡ true → is_stage_ended stage ≡ false
apart Undrawn unfinished = refl
apart Waiting unfinished = refl
apart Unfinished unfinished = refl
apart Ended unfinished = absurd cc

untaken : EndStays → (rules : Rules) (past : List Entry) → AreRight rules past → (run : ℕ)
    → is_unfinished past run ≡ true → is_taken past run ≡ false
untaken stays rules past right run unfinished = elim (cases_Bool (is_taken past run)) [
  | inl taken ↦ absurd (let over = taken_ended stays rules past right run taken in
      let still = apart (stage_of past run) unfinished in cc)
  | inr free ↦ free
]

pub is_ended : EndStays → HolderRuns
    → ((rules : Rules) (past : List Entry) → AreRight rules past → AreThose rules past)
    → (rules : Rules) (past : List Entry) (lane run : ℕ) → IsRunning past lane run → AreRight rules past
    → IsValidJournal rules (ended rules past lane run) → IsWithin (ended rules past lane run)
    → IsEndedWithoutMemory rules past lane run
is_ended stays holds those rules past lane run running right valid within =
    let same : (run == run) ≡ true = eq-eqb run run refl in
    let over : has_ended (ended rules past lane run) run ≡ true = rw same refl in
    let untaken : is_taken past run ≡ false = untaken stays rules past right run running.unfinished in
    record {
      valid = valid;
      within = within;
      over = over;
      free = λ holds_it. absurd (let unfinished = holds rules (ended rules past lane run) run valid.entries holds_it in
          let still = apart (stage_of (ended rules past lane run) run) unfinished in cc);
      waits = (those rules (ended rules past lane run) valid.entries).found run ∙ rw (over, untaken) refl;
      handed = λ asking asked page. rw (asked, over, page, untaken, eq-eqb asking asking refl) refl;
    }
