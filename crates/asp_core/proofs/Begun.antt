-- The room that a Begin needs.
use Rattle.std.proofs.Common.{◌≡◌, ℕ, ◌+◌, ◌-◌, ◌^◌, ◌<◌, ◌≤◌, ◌∷◌, true, false, List, length, min}
use Rattle.std.proofs.Common.{refl, ap, sym, ◌∙◌, arith}
use Rattle.asp_job.specs.declared.entry.Entry.{Entry}
use Rattle.asp_job.specs.declared.entry.Stage.TheVariants.{Unfinished}
use Rattle.asp_job.specs.declared.entry.TheConstants.{MOST_WEIGHT}
use Rattle.asp_job.specs.declared.entry.What.TheVariants.{Begin}
use Rattle.asp_job.specs.History.{load, weight_load, with_lane}
use Rattle.asp_job.specs.Journal.{AreRight}
use Rattle.asp_job.specs.Rules.{Rules}
use Rattle.asp_job.specs.Runs.{drawn, is_stage_unfinished, is_stage_waiting}
use Rattle.asp_job.specs.Runs.{is_unfinished, is_waiting, stage_of, unfinished}
use Rattle.asp_job.specs.Turns.{may_begin}
use Rattle.asp_journal.specs.Tables.{IsFit}
use Rattle.asp_journal.proofs.Open.{waiting_open}
use Rattle.asp_journal.specs.declared.full.Full.{Full}
use Rattle.asp_core.specs.Calm.{HasLoad, IsOver}
use Rattle.asp_core.specs.Book.{BookView, HasRoomFor, IsRoomy, past_in}
use Rattle.asp_core.specs.Kernel.{IsTooMuch, IsWithin}
use Rattle.asp_journal.proofs.Others.{own_number, stage_other}
use Rattle.asp_core.proofs.Calm.{bounded}
use Rattle.asp_core.proofs.Counts.{filter_one}
use Rattle.asp_core.proofs.Right.{is_drawn, may_begin_waits, numbered}

waits : (past : List Entry) (run : ℕ) → may_begin past run ≡ true → is_waiting past run ≡ true
waits past run may = ap is_stage_waiting (may_begin_waits past run may)

pub begin_numbered : (m : Rules) (past : List Entry) (run : ℕ) → AreRight m past → may_begin past run ≡ true
    → (0 < run) × (run ≤ drawn past)
begin_numbered m past run right may = numbered m past right run (ap is_drawn (may_begin_waits past run may))

-- a Begin may be added
pub begin_fit : (m : Rules) (past : List Entry) (run serial : ℕ) → AreRight m past → may_begin past run ≡ true
    → IsFit past (Begin run serial)
begin_fit m past run serial right may = record {
  numbered = begin_numbered m past run right may;
  timely = waiting_open past run (waits past run may);
}

-- one run more is unfinished after a Begin
pub one_unfinished : (m : Rules) (past : List Entry) (lane run serial : ℕ) → AreRight m past
    → may_begin past run ≡ true
    → length (unfinished (with_lane lane (Begin run serial) ∷ past)) ≡ length (unfinished past) + 1
one_unfinished m past lane run serial right may =
    let new = with_lane lane (Begin run serial) ∷ past in
    let own = own_number run in
    let known = begin_numbered m past run right may in
    let before : is_unfinished past run ≡ false = ap is_stage_unfinished (may_begin_waits past run may) in
    let stage : stage_of new run ≡ Unfinished = rw own refl in
    sym (filter_one (is_unfinished past) (is_unfinished new) (drawn past) run known.0 known.1
    (ap is_stage_unfinished stage) before
    (λ other apart. sym (ap is_stage_unfinished (stage_other past lane other (Begin run serial) apart))))

pub begin_within : (m : Rules) (past : List Entry) (lane run serial : ℕ) → AreRight m past
    → may_begin past run ≡ true → HasLoad past 2 128 → IsWithin (with_lane lane (Begin run serial) ∷ past)
begin_within m past lane run serial right may has =
    let one = one_unfinished m past lane run serial right may in
    let few = has.few in
    let light = bounded (weight_load past + 128) (2 ^ 64 - 1) MOST_WEIGHT has.light (omega arith) in
    record { few = omega arith; light = omega arith }

pub begin_much : (m : Rules) (past : List Entry) (lane run serial : ℕ) (full : Full) → AreRight m past
    → may_begin past run ≡ true → IsOver past 2 128 full
    → IsTooMuch (with_lane lane (Begin run serial) ∷ past) full
begin_much m past lane run serial full right may over =
    let new = with_lane lane (Begin run serial) ∷ past in
    let one = one_unfinished m past lane run serial right may in
    let loads : load past + 2 ≡ load new = omega arith in
    let weighs : weight_load past + 128 ≡ weight_load new = omega arith in
    record {
      entries_are = over.entries_are ∙ loads;
      weight_is = over.weight_is ∙ ap (λ w. min w (2 ^ 64 - 1)) weighs;
      much = over.much;
    }

-- room for two entries more is room for a Begin
pub begin_roomy : (m : Rules) (book : BookView) (lane run serial : ℕ) → AreRight m (past_in book)
    → may_begin (past_in book) run ≡ true → IsRoomy book 2 → HasRoomFor book (with_lane lane (Begin run serial))
begin_roomy m book lane run serial right may roomy =
    let one = one_unfinished m (past_in book) lane run serial right may in
    let room = roomy.0 in
    let places = roomy.1 in
    (omega arith, omega arith)
