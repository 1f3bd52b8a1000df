-- How the first run ended stays so.
use Rattle.std.proofs.Common.{◌≡◌, ℕ, ◌+◌, ◌==◌, Bool, true, false, if◌then◌else◌, List, [], ◌∷◌, is_some, refl}
use Rattle.std.proofs.Common.{ap, sym, ◌∙◌, subst, arith, inl, inr}
use Rattle.std.proofs.lemmas.Bool.{cases_Bool, eqb-true, eq-eqb}
use Rattle.asp_core.proofs.Kept.{past_of_more}
use Rattle.asp_core.proofs.Right.{begin_right, drawn_next, end_running, may_begin_waits, next_undrawn, unfinished_is}
use Rattle.asp_core.specs.Kernel.{CoreView, grown, past_of, rules_of}
use Rattle.asp_core.specs.Start.{fail_by, start_fail}
use Rattle.asp_job.specs.declared.entry.Entry.{Entry}
use Rattle.asp_job.specs.declared.entry.Stage.TheVariants.{Ended, Undrawn, Unfinished, Waiting}
use Rattle.asp_job.specs.declared.entry.What.{What}
use Rattle.asp_job.specs.declared.entry.What.TheVariants.{Admit, App, Begin, End, Halt, Queue, Refuse, Stop, Take, Tick}
use Rattle.asp_job.specs.History.{run_in, with_lane}
use Rattle.asp_job.specs.Journal.{AreRight, IsRight, IsValidJournal, past_after}
use Rattle.asp_job.specs.Rules.{Rules}
use Rattle.asp_job.specs.Runs.{drawn, stage_of}
use Rattle.asp_job.specs.Told.{Meaning}
use Rattle.asp_job.specs.Turns.{owed}
use Rattle.asp_journal.proofs.Others.{stage_other}
use Rattle.asp_journal.specs.Telling.{end_kind}
use Rattle.asp_lane.specs.Started.{HasStarted}

-- ---- a run that has ended is at its last stage

kind_other : (past : List Entry) (lane r : ℕ) (what : What) → (run_in what == r) ≡ false
    → end_kind (with_lane lane what ∷ past) r ≡ end_kind past r
kind_other past lane r (Queue run work key) e = refl
kind_other past lane r (Admit run key fresh job) e = refl
kind_other past lane r (Refuse run job) e = refl
kind_other past lane r (Tick moment) e = refl
kind_other past lane r (Begin run serial) e = refl
kind_other past lane r (App run call reply) e = refl
kind_other past lane r (End run kind status size n1 n2) e = rw e refl
kind_other past lane r (Take run) e = refl
kind_other past lane r Stop e = refl
kind_other past lane r Halt e = refl

abbrev IsAtEnd : List Entry → ℕ → Type 0
IsAtEnd past r = is_some (end_kind past r) ≡ true → stage_of past r ≡ Ended

end_own : (m : Rules) (past : List Entry) (lane : ℕ) (what : What) (r : ℕ) → AreRight m past
    → IsRight m past (with_lane lane what) → run_in what ≡ r → IsAtEnd past r → IsAtEnd (with_lane lane what ∷ past) r
end_own m past lane (Queue run work key) r all right e ih some =
    let n : r ≡ drawn past + 1 = sym e ∙ drawn_next m past lane (Queue run work key) (owed m past) right.turn refl in
    let fresh : stage_of past r ≡ Undrawn = next_undrawn m past all r (omega arith) in
    absurd (let both : Ended ≡ Undrawn = sym (ih some) ∙ fresh in cc)
end_own m past lane (Admit run key fresh job) r all right e ih some =
    let n : r ≡ drawn past + 1 =
    sym e ∙ drawn_next m past lane (Admit run key fresh job) (owed m past) right.turn refl in
    let fresh : stage_of past r ≡ Undrawn = next_undrawn m past all r (omega arith) in
    absurd (let both : Ended ≡ Undrawn = sym (ih some) ∙ fresh in cc)
end_own m past lane (Refuse run job) r all right e ih some =
    let own : (run == r) ≡ true = eq-eqb run r e in rw own refl
end_own m past lane (Tick moment) r all right e ih some = ih some
end_own m past lane (Begin run serial) r all right e ih some =
    let begin = begin_right m past lane run serial (owed m past) right.turn in
    let waits : stage_of past r ≡ Waiting = ap (stage_of past) (sym e) ∙ may_begin_waits past run begin.next.begins in
    absurd (let both : Ended ≡ Waiting = sym (ih some) ∙ waits in cc)
end_own m past lane (App run call reply) r all right e ih some = ih some
end_own m past lane (End run kind status size n1 n2) r all right e ih some =
    let own : (run == r) ≡ true = eq-eqb run r e in rw own refl
end_own m past lane (Take run) r all right e ih some = ih some
end_own m past lane Stop r all right e ih some = ih some
end_own m past lane Halt r all right e ih some = ih some

at_end : (m : Rules) (past : List Entry) → AreRight m past → (r : ℕ) → IsAtEnd past r
at_end m [] right r = λ some. absurd cc
at_end m (entry ∷ past) right r = elim (cases_Bool (run_in entry.what == r)) [
  | inl own ↦ end_own m past entry.lane entry.what r right.1 right.0 (eqb-true (run_in entry.what) r own)
      (at_end m past right.1 r)
  | inr other ↦ (λ some. stage_other past entry.lane r entry.what other
      ∙ at_end m past right.1 r (ap is_some (sym (kind_other past entry.lane r entry.what other)) ∙ some))
]

-- ---- the first run

started_one : (m : Rules) (past : List Entry) (lane : ℕ) (what : What) → AreRight m past
    → IsRight m past (with_lane lane what) → HasStarted m past → HasStarted m (with_lane lane what ∷ past)
started_one m past lane (Queue run work key) all right is = record { ended = is.ended; sound = is.sound }
started_one m past lane (Admit run key fresh job) all right is = record { ended = is.ended; sound = is.sound }
started_one m past lane (Refuse run job) all right is = record { ended = is.ended; sound = is.sound }
started_one m past lane (Tick moment) all right is = record { ended = is.ended; sound = is.sound }
started_one m past lane (Begin run serial) all right is = record { ended = is.ended; sound = is.sound }
started_one m past lane (App run call reply) all right is = record { ended = is.ended; sound = is.sound }
started_one m past lane (Take run) all right is = record { ended = is.ended; sound = is.sound }
started_one m past lane Stop all right is = record { ended = is.ended; sound = is.sound }
started_one m past lane Halt all right is = record { ended = is.ended; sound = is.sound }
started_one m past lane (End run kind status size n1 n2) all right is = elim (cases_Bool (run == 1)) [
  | inl own ↦ absurd (
      let running = end_running m past lane run kind status size n1 n2 (owed m past) right.turn in
      let busy : stage_of past 1 ≡ Unfinished =
      ap (stage_of past) (sym (eqb-true run 1 own)) ∙ unfinished_is (stage_of past run) running.unfinished in
      let both : Ended ≡ Unfinished = sym (at_end m past all 1 (ap is_some is.ended)) ∙ busy in
      cc)
  | inr other ↦ record {
    ended = kind_other past lane 1 (End run kind status size n1 n2) other ∙ is.ended;
    sound = ap (λ (b : Bool). if b then fail_by m past run kind else start_fail m past) other ∙ is.sound;
  }
]

right_before : (m : Rules) (past entries : List Entry) → AreRight m (past_after past entries) → AreRight m past
right_before m past [] right = right
right_before m past (entry ∷ entries) right = (right_before m (entry ∷ past) entries right).1

pub started_stays : (m : Rules) (past entries : List Entry) → AreRight m (past_after past entries) → HasStarted m past
    → HasStarted m (past_after past entries)
started_stays m past [] right is = is
started_stays m past (entry ∷ entries) right is =
    let before = right_before m (entry ∷ past) entries right in
    started_stays m (entry ∷ past) entries right (started_one m past entry.lane entry.what before.1 before.0 is)

-- the first run of a core whose journal has grown has started as before
pub started_grown : {R Site : Type 0} → (meaning : R → Site → Meaning) (old new : CoreView R Site)
    → ((entries : List Entry) × (new ≡ grown old entries))
    → IsValidJournal (rules_of meaning new) (past_of new) → HasStarted (rules_of meaning old) (past_of old)
    → HasStarted (rules_of meaning old) (past_of new)
started_grown meaning old new grows valid is =
    let m = rules_of meaning old in
    let right : AreRight m (past_of new) =
    subst (λ (some : Rules). AreRight some (past_of new)) (ap (λ core. rules_of meaning core) grows.1) valid.entries in
    let past : past_of new ≡ past_after (past_of old) grows.0 =
    ap (λ core. past_of core) grows.1 ∙ past_of_more old.journal grows.0 in
    subst (HasStarted m) (sym past)
    (started_stays m (past_of old) grows.0 (subst (AreRight m) past right) is)
