-- An answer stays once its run has ended.
use Rattle.std.proofs.Common.{◌≡◌, ℕ, ◌==◌, true, false, List, [], ◌∷◌, refl, ap, sym, ◌∙◌, arith, inl, inr}
use Rattle.std.proofs.lemmas.Bool.{cases_Bool, eqb-true}
use Rattle.asp_job.specs.declared.entry.Entry.{Entry}
use Rattle.asp_job.specs.declared.entry.Stage.TheVariants.{Unfinished}
use Rattle.asp_job.specs.declared.entry.What.{What}
use Rattle.asp_job.specs.declared.entry.What.TheVariants.{Admit, App, Begin, End, Halt, Queue, Refuse, Stop, Take, Tick}
use Rattle.asp_job.specs.History.{with_lane}
use Rattle.asp_job.specs.Journal.{AreRight, IsRight, past_after}
use Rattle.asp_job.specs.Output.{answer_of_run}
use Rattle.asp_job.specs.Rules.{Rules}
use Rattle.asp_job.specs.Runs.{has_ended, is_stage_ended, stage_of}
use Rattle.asp_job.specs.Turns.{owed}
use Rattle.asp_core.proofs.Answering.{ended_stays}
use Rattle.asp_core.proofs.Right.{drawn_next, end_running, next_undrawn, unfinished_is}
use Rattle.asp_core.proofs.Staying.{right_before}

lasts_one : (m : Rules) (past : List Entry) (lane : ℕ) (what : What) (r : ℕ) → AreRight m past
    → IsRight m past (with_lane lane what) → has_ended past r ≡ true
    → answer_of_run m (with_lane lane what ∷ past) r ≡ answer_of_run m past r
lasts_one m past lane (Queue run work key) r all right ended = refl
lasts_one m past lane (Admit run key fresh job) r all right ended = refl
lasts_one m past lane (Refuse run job) r all right ended = elim (cases_Bool (run == r)) [
  | inl own ↦ absurd (let n = drawn_next m past lane (Refuse run job) (owed m past) right.turn refl in
      let same = eqb-true run r own in
      let no : has_ended past r ≡ false = ap is_stage_ended (next_undrawn m past all r (omega arith)) in cc)
  | inr other ↦ rw other refl
]
lasts_one m past lane (Tick moment) r all right ended = refl
lasts_one m past lane (Begin run serial) r all right ended = refl
lasts_one m past lane (App run call reply) r all right ended = refl
lasts_one m past lane (End run kind status size n1 n2) r all right ended = elim (cases_Bool (run == r)) [
  | inl own ↦ absurd (let its = end_running m past lane run kind status size n1 n2 (owed m past) right.turn in
      let stage : stage_of past r ≡ Unfinished =
      ap (stage_of past) (sym (eqb-true run r own)) ∙ unfinished_is (stage_of past run) its.unfinished in
      let no : has_ended past r ≡ false = ap is_stage_ended stage in cc)
  | inr other ↦ rw other refl
]
lasts_one m past lane (Take run) r all right ended = refl
lasts_one m past lane Stop r all right ended = refl
lasts_one m past lane Halt r all right ended = refl

pub lasts : (m : Rules) (past entries : List Entry) (r : ℕ) → AreRight m (past_after past entries)
    → has_ended past r ≡ true → (has_ended (past_after past entries) r ≡ true)
    × (answer_of_run m (past_after past entries) r ≡ answer_of_run m past r)
lasts m past [] r right ended = (ended, refl)
lasts m past (entry ∷ entries) r right ended =
    let before = right_before m (entry ∷ past) entries right in
    let still = ended_stays m past entry.lane entry.what r before.1 before.0 ended in
    let rest = lasts m (entry ∷ past) entries r right still in
    (rest.0, rest.1 ∙ lasts_one m past entry.lane entry.what r before.1 before.0 ended)
