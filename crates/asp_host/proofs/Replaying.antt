-- What a replay comes to.
use Rattle.std.proofs.Common.{◌≡◌, ℕ, ◌++◌, Bool, true, List, [], ◌∷◌, length, append_assoc, refl, ap, sym, ◌∙◌, subst}
use Rattle.std.proofs.Common.{inl, inr, arith, Option}
use Rattle.std.proofs.Common.{Result, Ok, Err, IfErr, OnOk}
use Rattle.asp_core.specs.Kernel.{CoreView, past_of, rules_by, rules_of}
use Rattle.asp_io.specs.Copying.{AddsPart}
use Rattle.asp_job.specs.declared.answer.Fail.{Fail}
use Rattle.asp_job.specs.declared.entry.Entry.{Entry}
use Rattle.asp_job.specs.declared.entry.What.TheVariants.{Queue}
use Rattle.asp_job.specs.declared.job.Work.TheVariants.{Start}
use Rattle.asp_job.specs.History.{with_lane}
use Rattle.asp_job.specs.Journal.{IsValidJournal}
use Rattle.asp_job.specs.Rules.{Rules}
use Rattle.asp_job.specs.Told.{Meaning}
use Rattle.asp_record.specs.declared.recording.Item.{Item}
use Rattle.asp_record.specs.EntryLines.{lines_in}
use Rattle.asp_record.specs.Journal.{AreLines}
use Rattle.asp_replay.specs.declared.stop.FeedStop.{FeedStop}
use Rattle.asp_replay.specs.declared.stop.FeedStop.TheVariants as stop
use Rattle.asp_replay.specs.Workers.{HasFedPartBeside}
use Rattle.asp_feed.specs.Shown.{AreRecords, IsOutput, done_line, lines_of, shown_of}
use Rattle.asp_replay.specs.Underway.{IsCoreOf, WritesText}
use Rattle.asp_replay.proofs.FedBack.{rules_here}
use Rattle.asp_replay.proofs.Pieces.{part_more, with_none, wrote_more}
use Rattle.asp_host.specs.Replayed.{HasFedBy, HasFedUntil, HasNotStarted, HasReplayed, HasReplayedPart, HasStopped}
use Rattle.asp_replay.proofs.Silent.{none_shown, none_written}
use Rattle.asp_core.specs.declared.setting.Setting.{Setting}

-- ---- a feed that stopped

abbrev first_past : List Entry
first_past = with_lane 0 (Queue 1 Start 0) ∷ []

-- nothing was written, and nothing came to the journal
nothing_part : (rules : Rules) (items : List Item) (journal : Bool) (before after : Option (List ℕ)) → after ≡ before
    → HasReplayedPart rules items journal stop.Memory before after
nothing_part rules items journal before after same = record {
  past = first_past;
  account = record { entries = (record { turn = (refl, tt); legal = tt; follows = tt }, tt); settled = refl };
  fed = inr ([], items, [], refl, record { items_are = (refl, refl); calm = (tt, tt) });
  passed = inr (refl, λ e. absurd cc);
  bytes = [];
  is_part = inr ([], [], refl, refl);
  wrote = record { count = 0; within = omega arith; added = same ∙ sym (with_none before) };
}

part_of : (workers : ℕ) (rules : Rules) (items : List Item) (journal : Bool) (past : List Entry) (ended : FeedStop)
    (before after : Option (List ℕ)) → HasFedPartBeside workers rules items past ended before after
    → HasReplayedPart rules items journal ended before after
part_of workers rules items journal past ended before after part =
    let written = part.written in
    record {
      past = past;
      account = part.account;
      fed = part.fed;
      passed = part.passed;
      bytes = written.records;
      is_part = inr (written.first, written.later, written.shown_are, written.are_records);
      wrote = written.wrote;
    }

-- the first run failed so
pub not_started : (workers : ℕ) (rules : Rules) (items : List Item) (past : List Entry) (fail : Fail)
    (before after : Option (List ℕ)) → HasFedPartBeside workers rules items past (stop.StartFailed fail) before after
    → HasNotStarted rules fail before after
not_started workers rules items past fail before after part =
    let none = none_shown rules past part.account.entries part.answered part.cause.none_came in
    record {
      past = past;
      account = part.account;
      failed = part.cause;
      none_wrote = none_written rules past before after none part.written;
    }

-- a feed stopped so
pub feed_stopped : (workers : ℕ) (rules : Rules) (items : List Item) (journal : Bool) (before after : Option (List ℕ))
    (ended : FeedStop) → HasFedUntil workers rules items ended before after
    → HasStopped workers rules items journal before after ended
feed_stopped workers rules items journal before after (stop.StartFailed fail) (inl none) = absurd (let e = none.0 in cc)
feed_stopped workers rules items journal before after (stop.StartFailed fail) (inr part) =
    not_started workers rules items part.0 fail before after part.1
feed_stopped workers rules items journal before after (stop.JournalFull full) (inl none) = absurd (let e = none.0 in cc)
feed_stopped workers rules items journal before after (stop.JournalFull full) (inr part) = part
feed_stopped workers rules items journal before after stop.WriteFault (inl none) = absurd (let e = none.0 in cc)
feed_stopped workers rules items journal before after stop.WriteFault (inr part) =
    part_of workers rules items journal part.0 stop.WriteFault before after part.1
feed_stopped workers rules items journal before after stop.Memory (inl none) =
    nothing_part rules items journal before after none.1
feed_stopped workers rules items journal before after stop.Memory (inr part) =
    part_of workers rules items journal part.0 stop.Memory before after part.1

-- ---- what is written behind the answers

-- all that a replay writes
whole_output : (rules other : Rules) (past : List Entry) (journal : Bool) (records : List ℕ) → rules ≡ other
    → AreRecords (shown_of other past) records
    → IsOutput other past journal
    (records ++ (lines_of journal past ++ done_line (length (shown_of rules past))))
whole_output rules other past journal records same are = record {
  records = records;
  are_records = are;
  bytes_are = ap (λ some. records ++ (lines_of journal past ++ done_line (length (shown_of some past)))) same
      ∙ sym (append_assoc records (lines_of journal past) (done_line (length (shown_of other past))));
}

module _ {R Site : Type 0} (workers : ℕ) (meaning : R → Site → Meaning) where
  pub replay_ok : {T : Type 0} → (core : CoreView R Site) (runner : R) (site : Site) (setting : Setting)
      (items : List Item)
      (journal : Bool) (before held after : Option (List ℕ)) (result : Result T FeedStop)
      → IsCoreOf runner site setting core → IsValidJournal (rules_of meaning core) (past_of core)
      → HasFedBy workers (rules_by (meaning runner site) setting) items (past_of core) before held
      → WritesText (lines_of journal (past_of core)
      ++ done_line (length (shown_of (rules_of meaning core) (past_of core)))) result held after
      → OnOk result (journal ≡ true → AreLines (lines_in (past_of core)))
      → OnOk result (HasReplayed workers (rules_by (meaning runner site) setting) items journal before after)
  replay_ok core runner site setting items journal before held after (Ok given) of valid fed wrote lines =
      let same = rules_here meaning core runner site setting of in
      let other = rules_by (meaning runner site) setting in
      let past = past_of core in
      let written = fed.written in
      let text = lines_of journal past ++ done_line (length (shown_of (rules_of meaning core) past)) in
      record {
        past = past;
        account = subst (λ some. IsValidJournal some past) same valid;
        whole = fed.whole;
        output = written.records ++ text;
        is_output = whole_output (rules_of meaning core) other past journal written.records same written.are_records;
        lines = lines;
        wrote = wrote_more before held after written.records text written.wrote wrote;
      }
  replay_ok core runner site setting items journal before held after (Err ended) of valid fed wrote lines = tt

  replay_part : (core : CoreView R Site) (runner : R) (site : Site) (setting : Setting) (items : List Item)
      (journal : Bool) (ended : FeedStop) (before held after : Option (List ℕ))
      → IsCoreOf runner site setting core → IsValidJournal (rules_of meaning core) (past_of core)
      → HasFedBy workers (rules_by (meaning runner site) setting) items (past_of core) before held
      → AddsPart held after (lines_of journal (past_of core)
      ++ done_line (length (shown_of (rules_of meaning core) (past_of core))))
      → HasReplayedPart (rules_by (meaning runner site) setting) items journal ended before after
  replay_part core runner site setting items journal ended before held after of valid fed part =
      let same = rules_here meaning core runner site setting of in
      let other = rules_by (meaning runner site) setting in
      let past = past_of core in
      let written = fed.written in
      let text = lines_of journal past ++ done_line (length (shown_of (rules_of meaning core) past)) in
      record {
        past = past;
        account = subst (λ some. IsValidJournal some past) same valid;
        fed = inl fed.whole.fed;
        passed = inl fed.whole.started;
        bytes = written.records ++ text;
        is_part = inl (whole_output (rules_of meaning core) other past journal written.records same written.are_records);
        wrote = part_more before held after written.records text written.wrote part;
      }

  pub replay_err : {T : Type 0} → (core : CoreView R Site) (runner : R) (site : Site) (setting : Setting)
      (items : List Item) (journal : Bool) (before held after : Option (List ℕ)) (result : Result T FeedStop)
      → IsCoreOf runner site setting core → IsValidJournal (rules_of meaning core) (past_of core)
      → HasFedBy workers (rules_by (meaning runner site) setting) items (past_of core) before held
      → WritesText (lines_of journal (past_of core)
      ++ done_line (length (shown_of (rules_of meaning core) (past_of core)))) result held after
      → IfErr result (HasStopped workers (rules_by (meaning runner site) setting) items journal before after)
  replay_err core runner site setting items journal before held after (Ok given) of valid fed wrote = tt
  replay_err core runner site setting items journal before held after (Err (stop.StartFailed fail)) of valid fed wrote =
      absurd wrote
  replay_err core runner site setting items journal before held after (Err (stop.JournalFull full)) of valid
      fed
      wrote = absurd wrote
  replay_err core runner site setting items journal before held after (Err stop.WriteFault) of valid fed wrote =
      replay_part core runner site setting items journal stop.WriteFault before held after of valid fed wrote
  replay_err core runner site setting items journal before held after (Err stop.Memory) of valid fed wrote =
      replay_part core runner site setting items journal stop.Memory before held after of valid fed wrote
