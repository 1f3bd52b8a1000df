-- What a replay ran and wrote, whole or in part.
use Rattle.std.specs.Prelude.{◌≡◌, ◌⊎◌, ◌<◌, ℕ, All, Bool, true, List, Option}
use Rattle.asp_io.specs.Copying.{AddsPart}
use Rattle.asp_io.specs.Sink.{with_bytes}
use Rattle.asp_core.specs.Laws.{NoneIs}
use Rattle.asp_job.specs.declared.answer.Fail.{Fail}
use Rattle.asp_job.specs.declared.entry.Entry.{Entry}
use Rattle.asp_job.specs.Journal.{IsValidJournal}
use Rattle.asp_job.specs.Rules.{Rules}
use Rattle.asp_journal.specs.declared.full.Full.{Full}
use Rattle.asp_lane.specs.Started.{HasStarted}
use Rattle.asp_record.specs.declared.recording.Item.{Item}
use Rattle.asp_record.specs.EntryLines.{lines_in}
use Rattle.asp_record.specs.Journal.{AreLines}
use Rattle.asp_replay.specs.declared.stop.FeedStop.{FeedStop}
use Rattle.asp_replay.specs.declared.stop.FeedStop.TheVariants as stop
use Rattle.asp_replay.specs.Feed.{AreWritten, HasFailed, IsPassed, is_full_end}
use Rattle.asp_replay.specs.Sequential.{IsSequential, is_memory_end}
use Rattle.asp_replay.specs.Underway.{HasNotBegun}
use Rattle.asp_replay.specs.Workers.{HasFedPartBeside}
use Rattle.asp_feed.specs.Feeding.{IsFed, IsFedPart, is_calm}
use Rattle.asp_feed.specs.Shown.{IsOutput, IsOutputPart}

-- All items were fed to a host with this journal, at which so many workers worked, each on a lane of its own: the first
-- run has ended by itself and did not fail, each run has ended, and none because the journal was full. Where one worker
-- did all, the journal is the history of one lane, unless memory ran out for a run.
pub record IsFedBy (workers : ℕ) (rules : Rules) (items : List Item) (past : List Entry) : Type 0 where
  pub fed : IsFed items past
  pub started : HasStarted rules past
  pub ended : is_calm past ≡ true
  pub none_full : NoneIs is_full_end past
  pub lanes : All (λ entry. entry.lane < workers) past
  pub sequential : workers ≡ 1 → NoneIs is_memory_end past → IsSequential rules items past

-- The items were replayed to their end by so many workers, with this journal, which is a right account of all runs; and
-- the bytes of its answers, of its lines where they are asked for, and of their count were written. Each of those lines is
-- such as may stand in a journal.
pub record HasReplayed (workers : ℕ) (rules : Rules) (items : List Item) (journal : Bool)
    (before after : Option (List ℕ)) : Type 0 where
  pub past : List Entry
  pub account : IsValidJournal rules past
  pub whole : IsFedBy workers rules items past
  pub output : List ℕ
  pub is_output : IsOutput rules past journal output
  pub lines : journal ≡ true → AreLines (lines_in past)
  pub wrote : after ≡ with_bytes before output

-- The items were replayed in part, or to their end, until this stop: nothing came, and nothing was written, before the
-- first run had ended well. First bytes of what belongs to this journal were written.
pub record HasReplayedPart (rules : Rules) (items : List Item) (journal : Bool) (ended : FeedStop)
    (before after : Option (List ℕ)) : Type 0 where
  pub past : List Entry
  pub account : IsValidJournal rules past
  pub fed : IsFedPart items past
  pub passed : IsPassed rules past ended
  pub bytes : List ℕ
  pub is_part : IsOutputPart rules past journal bytes
  pub wrote : AddsPart before after bytes

-- the journal of a replay by so many workers that ends because it would be too long or too heavy with what comes next, or
-- with what one of them does next
abbrev pub HasFilled : ℕ → Rules → List Item → Full → Option (List ℕ) → Option (List ℕ) → Type 0
HasFilled workers rules items full before after =
    (past : List Entry) × HasFedPartBeside workers rules items past (stop.JournalFull full) before after

-- the journal of a replay whose first run fails so; nothing came to it, and nothing was written
pub record HasNotStarted (rules : Rules) (fail : Fail) (before after : Option (List ℕ)) : Type 0 where
  pub past : List Entry
  pub account : IsValidJournal rules past
  pub failed : HasFailed rules past fail
  pub none_wrote : after ≡ before

-- how a replay stopped
abbrev pub HasStopped : ℕ → Rules → List Item → Bool → Option (List ℕ) → Option (List ℕ) → FeedStop → Type 0
HasStopped workers rules items journal before after (stop.StartFailed fail) = HasNotStarted rules fail before after
HasStopped workers rules items journal before after (stop.JournalFull full) =
    HasFilled workers rules items full before after
HasStopped workers rules items journal before after ended = HasReplayedPart rules items journal ended before after

-- ---- this crate's own: the feed below

-- so they were fed, and the answers were written
pub record HasFedBy (workers : ℕ) (rules : Rules) (items : List Item) (past : List Entry)
    (before after : Option (List ℕ)) : Type 0 where
  pub whole : IsFedBy workers rules items past
  pub written : AreWritten rules past before after

-- or they were not, and the feed came to this stop
abbrev pub HasFedUntil : ℕ → Rules → List Item → FeedStop → Option (List ℕ) → Option (List ℕ) → Type 0
HasFedUntil workers rules items ended before after = HasNotBegun ended before after
    ⊎ ((past : List Entry) × HasFedPartBeside workers rules items past ended before after)
