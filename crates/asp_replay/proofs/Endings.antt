-- What is known of a feed once its host is closed.
use Rattle.std.proofs.Common.{◌≡◌, ◌≢◌, ℕ, true, false, List, [], ◌∷◌, All, Option, None, Some, Result, Ok, Err}
use Rattle.std.proofs.Common.{Bool, IsTrue, IfErr, IfOk, OnOk, IfSome, ap, sym, ◌∙◌, subst, inl, inr, reverse, append-nil}
use Rattle.std.specs.List.{AllByRecursion}
use Rattle.std.proofs.lemmas.List.Elements.{recursion_from_All}
use Rattle.asp_core.proofs.Kept.{past_of_more}
use Rattle.asp_core.specs.Laws.{NoneIs}
use Rattle.asp_core.specs.Ready.{IsAnswered}
use Rattle.asp_core.specs.Start.{start_fail}
use Rattle.asp_desk.specs.declared.slices.Slice.{Slice}
use Rattle.asp_desk.specs.declared.slices.Slice.TheVariants as slice
use Rattle.asp_job.specs.declared.answer.Fail.{Fail}
use Rattle.asp_job.specs.declared.entry.Entry.{Entry}
use Rattle.asp_job.specs.Journal.{AreRight, IsValidJournal, past_after}
use Rattle.asp_job.specs.Rules.{Rules}
use Rattle.asp_job.specs.Runs.{is_halted, unfinished}
use Rattle.asp_record.specs.declared.recording.Item.{Item}
use Rattle.asp_feed.specs.Shown.{shown_of}
use Rattle.asp_replay.specs.declared.stop.FeedStop.{FeedStop}
use Rattle.asp_replay.specs.declared.stop.FeedStop.TheVariants as stop
use Rattle.asp_replay.specs.Feed.{IsPassed, IsWoundUp, is_full_end}
use Rattle.asp_replay.specs.Near.{GrowsSilently, HasWorked, IsFedNear, Leaves, LeavesBy}
use Rattle.asp_replay.specs.Workers.{HasCauseBeside, HasFedBeside, HasFedPartBeside, IsEarly, StopsWith, first_stop}
use Rattle.asp_replay.proofs.LeftNear.{leaves_fed, leaves_later, worked_silent}
use Rattle.asp_replay.proofs.Pieces.{part_whole}
use Rattle.asp_replay.proofs.Quiet.{calm_none}

-- ---- later moments

-- what lane 0 left so stays so while the others work
pub leaves_whole : (m : Rules) (items : List Item) (told : Result (Unit {0}) FeedStop) (seen past : List Entry)
    (before after : Option (List ℕ)) → HasWorked seen past → AreRight m past → LeavesBy told m items seen before after
    → LeavesBy told m items past before after
leaves_whole m items (Ok given) seen past before after worked right is =
    let none = calm_none m seen worked.entries (subst (AreRight m) worked.new_is right) is.calm worked.work in
    let same : past ≡ seen = worked.new_is ∙ ap (past_after seen) none in
    subst (λ some. IsFedNear m items some before after) (sym same) is
leaves_whole m items (Err ended) seen past before after worked right is =
    leaves_later m items seen past ended before after (worked_silent seen past worked) right is

-- and where it then halts the host
pub settled_fed : (m : Rules) (items : List Item) (old new : List Entry) (before after : Option (List ℕ))
    → GrowsSilently old new → AreRight m new → is_halted new ≡ true
    → LeavesBy {T = Unit {0}} (Ok tt) m items old before after
    → LeavesBy {T = Unit {0}} (Err stop.Memory) m items new before after
settled_fed m items old new before after grows right halted is =
    leaves_fed m items old new before after grows right halted is

-- ---- all was fed

none_after : (past entries : List Entry) → NoneIs is_full_end past → NoneIs is_full_end entries
    → NoneIs is_full_end (past_after past entries)
none_after past [] before behind = before
none_after past (entry ∷ entries) before behind =
    none_after (entry ∷ past) entries (behind.0, before) behind.1

none_in : (entries : List Entry) → AllByRecursion (λ (entry : Entry). is_full_end entry.what ≡ false) entries
    → NoneIs is_full_end entries
none_in [] all = tt
none_in (entry ∷ entries) all = (all.0, none_in entries all.1)

pub none_full_in : (journal : List Entry) → All (λ (entry : Entry). is_full_end entry.what ≡ false) journal
    → NoneIs is_full_end (reverse journal)
none_full_in journal all = subst (NoneIs is_full_end) (sym (past_of_more [] journal))
    (none_after [] journal tt (none_in journal
    (recursion_from_All (λ (entry : Entry). is_full_end entry.what ≡ false) journal all)))

pub is_true : (b : Bool) → b ≡ true → IsTrue b
is_true b e = e

pub fed_beside : (m : Rules) (items : List Item) (past : List Entry) (before after : Option (List ℕ))
    → NoneIs is_full_end past → LeavesBy {T = Unit {0}} (Ok tt) m items past before after
    → HasFedBeside m items past before after
fed_beside m items past before after none is = record {
  fed = is.fed;
  started = is.started;
  ended = is.calm;
  none_full = none;
  written = is.written;
}

-- ---- it was not

passed_memory : (m : Rules) (past : List Entry) (ended then_ended : FeedStop) → then_ended ≢ stop.WriteFault
    → IsPassed m past ended → IsPassed m past then_ended
passed_memory m past ended then_ended not (inl started) = inl started
passed_memory m past ended then_ended not (inr none) = inr (none.0, not)

wound_is : (past : List Entry) (ended : FeedStop) → is_halted past ≡ true → unfinished past ≡ [] → IsWoundUp past ended
wound_is past (stop.StartFailed fail) halted none = tt
wound_is past (stop.JournalFull full) halted none = record { halted = halted; none_left = none }
wound_is past stop.WriteFault halted none = record { halted = halted; none_left = none }
wound_is past stop.Memory halted none = tt

module _ (workers : ℕ) (m : Rules) (items : List Item) (past : List Entry) (before after : Option (List ℕ))
    (account : IsValidJournal m past) (answered : IsAnswered m past) where
  -- all was fed, but memory is said to have run out
  pub part_fed : LeavesBy {T = Unit {0}} (Ok tt) m items past before after
      → HasFedPartBeside workers m items past stop.Memory before after
  part_fed is = record {
    account = account;
    answered = answered;
    fed = inl is.fed;
    passed = inl is.started;
    cause = tt;
    written = record {
      first = shown_of m past;
      later = [];
      shown_are = sym (append-nil (shown_of m past));
      records = is.written.records;
      are_records = is.written.are_records;
      wrote = part_whole before after is.written.records is.written.wrote;
    };
    wound_up = tt;
  }

  part_by : (ended told : FeedStop) → Leaves m items past ended before after → IsPassed m past told
      → HasCauseBeside workers m items past told → IsWoundUp past told
      → HasFedPartBeside workers m items past told before after
  part_by ended told is passed cause wound = record {
    account = account;
    answered = answered;
    fed = is.fed;
    passed = passed;
    cause = cause;
    written = is.written;
    wound_up = wound;
  }

  failed_part : (fail then_fail : Fail) → Leaves m items past (stop.StartFailed fail) before after
      → start_fail m past ≡ Some then_fail → IsPassed m past (stop.StartFailed fail)
      → HasFedPartBeside workers m items past (stop.StartFailed then_fail) before after
  failed_part fail then_fail is failed (inl started) =
      absurd (let both : Some then_fail ≡ None = sym failed ∙ started.sound in cc)
  failed_part fail then_fail is failed (inr none) =
      part_by (stop.StartFailed fail) (stop.StartFailed then_fail) is (inr (none.0, λ e. cc))
      (record { none_came = none.0; failed = failed }) tt

  early_part : (early : FeedStop) → unfinished past ≡ [] → Leaves m items past stop.Memory before after
      → IsEarly workers m past early → HasFedPartBeside workers m items past early before after
  early_part (stop.JournalFull full) none is met =
      part_by stop.Memory (stop.JournalFull full) is
      (passed_memory m past stop.Memory (stop.JournalFull full) (λ e. cc) is.passed)
      (met.3, met.4, met.5, inr (met.0, met.1, met.2, met.6)) (wound_is past (stop.JournalFull full) is.halted none)
  early_part stop.Memory none is met = part_by stop.Memory stop.Memory is is.passed tt tt
  early_part stop.WriteFault none is met = absurd met
  early_part (stop.StartFailed fail) none is met = absurd met

  pub part_left : (ended : FeedStop) (early : Option FeedStop) (told : FeedStop) → unfinished past ≡ []
      → StopsWith m past ended early told → Leaves m items past ended before after
      → IfSome early (IsEarly workers m past) → HasFedPartBeside workers m items past told before after
  part_left (stop.StartFailed fail) early told none (inl failed) is met =
      subst (λ some. HasFedPartBeside workers m items past some before after) (sym failed.1)
      (failed_part fail failed.0 is failed.2 is.passed)
  part_left (stop.StartFailed fail) early told none (inr memory) is met =
      subst (λ some. HasFedPartBeside workers m items past some before after) (sym memory.0)
      (part_by (stop.StartFailed fail) stop.Memory is
      (passed_memory m past (stop.StartFailed fail) stop.Memory (λ e. cc) is.passed) tt tt)
  part_left (stop.JournalFull full) early told none same is met =
      subst (λ some. HasFedPartBeside workers m items past some before after) (sym same)
      (part_by (stop.JournalFull full) (stop.JournalFull full) is is.passed
      (is.much.0, is.much.1, is.much.2, inl is.much.3) (wound_is past (stop.JournalFull full) is.halted none))
  part_left stop.WriteFault early told none same is met =
      subst (λ some. HasFedPartBeside workers m items past some before after) (sym same)
      (part_by stop.WriteFault stop.WriteFault is is.passed tt (wound_is past stop.WriteFault is.halted none))
  part_left stop.Memory None told none same is met =
      subst (λ some. HasFedPartBeside workers m items past some before after) (sym same)
      (part_by stop.Memory stop.Memory is is.passed tt tt)
  part_left stop.Memory (Some early) told none same is met =
      subst (λ some. HasFedPartBeside workers m items past some before after) (sym same)
      (early_part early none is met)

-- ---- no lane but lane 0 writes

pub first_no_fault : (made : List Slice) → first_stop made ≡ Some stop.WriteFault → ⊥
first_no_fault [] is = absurd (let no : None ≡ Some stop.WriteFault = is in cc)
first_no_fault (slice.JournalFull full ∷ made) is =
    absurd (let no : Some (stop.JournalFull full) ≡ Some stop.WriteFault = is in cc)
first_no_fault (slice.Memory ∷ made) is = absurd (let no : Some stop.Memory ≡ Some stop.WriteFault = is in cc)
first_no_fault (slice.Worked ∷ made) is = first_no_fault made is
first_no_fault (slice.Idle ∷ made) is = first_no_fault made is
first_no_fault (slice.Blocked holder ∷ made) is = first_no_fault made is
first_no_fault (slice.Held ∷ made) is = first_no_fault made is

-- ---- what is handed back

pub ok_back : {C : Type 0} (result : Result C FeedStop) (core : C) (P : C → Type 0)
    → IfOk result (λ back. back ≡ core) → OnOk result (P core) → IfOk result P
ok_back (Ok back) core P is holds = subst P (sym is) holds
ok_back (Err ended) core P is holds = tt

pub ok_then : {C : Type 0} (result : Result C FeedStop) (P Q : Type 0) → (P → Q) → OnOk result P → OnOk result Q
ok_then (Ok back) P Q more holds = more holds
ok_then (Err ended) P Q more holds = tt

pub err_then : {C : Type 0} (result : Result C FeedStop) (P Q : FeedStop → Type 0)
    → ((ended : FeedStop) → P ended → Q ended) → IfErr result P → IfErr result Q
err_then (Ok back) P Q more holds = tt
err_then (Err ended) P Q more holds = more ended holds
