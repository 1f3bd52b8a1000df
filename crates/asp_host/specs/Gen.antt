-- How `gen` ends, by its status, and what it then leaves in the sink.
use Rattle.std.specs.Prelude.{◌≡◌, ◌⊎◌, ℕ, Bool, true, List, ◌++◌, None, false}
use Rattle.asp_io.specs.Copying.{AddsPart}
use Rattle.asp_io.specs.Sink.{with_bytes}
use Rattle.asp_job.specs.declared.answer.Fail.{Fail}
use Rattle.asp_job.specs.declared.entry.Entry.{Entry}
use Rattle.asp_job.specs.Journal.{IsValidJournal}
use Rattle.asp_job.specs.Rules.{Rules}
use Rattle.asp_journal.specs.declared.full.Full.{Full}
use Rattle.asp_record.specs.declared.recording.Item.{Item}
use Rattle.asp_record.specs.EntryLines.{lines_in}
use Rattle.asp_record.specs.Generated.{count_files, generated}
use Rattle.asp_record.specs.Journal.{AreLines}
use Rattle.asp_replay.specs.declared.stop.FeedStop.{FeedStop}
use Rattle.asp_replay.specs.declared.stop.FeedStop.TheVariants as feed
use Rattle.asp_feed.specs.Shown.{lines_of}
use Rattle.asp_site.specs.declared.site.Site.{Site}
use Rattle.asp_summary.specs.Counted.{summary_of}
use Rattle.asp_summary.specs.Lines.{summary_lines}
use Rattle.site_load.specs.Accepted.{IsAccepted}
use Rattle.asp_host.specs.declared.status.Status.{Status}
use Rattle.asp_host.specs.declared.status.Status.TheVariants.{Ok, Memory, Usage, SiteRefused, StartFailed}
use Rattle.asp_host.specs.declared.status.Status.TheVariants.{ReadFault, WriteFault, RecordRefused, JournalFull, AcceptFault}
use Rattle.asp_host.specs.Around.{Around, Change, IsLeft}
use Rattle.asp_host.specs.Replay.{rules_for}
use Rattle.asp_host.specs.Replayed.{HasFilled, HasNotStarted, IsFedBy}

-- how many workers there are
abbrev pub gen_workers : ℕ
gen_workers = 4

-- ---- feeding

-- The items were fed to their end by those workers with this journal, which is a right account of all runs; and these are
-- its lines, where they are asked for, and its summary.
pub record HasSummed (rules : Rules) (items : List Item) (count : ℕ) (journal : Bool) (output : List ℕ) : Type 0 where
  pub past : List Entry
  pub account : IsValidJournal rules past
  pub whole : IsFedBy gen_workers rules items past
  pub output_is : output ≡ lines_of journal past ++ summary_lines (summary_of count past)

-- so they were, and a first part of that was written
abbrev pub HasSummedPart : Rules → List Item → ℕ → Bool → Change → Type 0
HasSummedPart rules items count journal sink =
    (output : List ℕ) × HasSummed rules items count journal output × AddsPart sink.before sink.after output

-- So they were, and all of that was written. Each of the lines is such as may stand in a journal.
pub record HasSummedAll (rules : Rules) (items : List Item) (count : ℕ) (journal : Bool) (sink : Change) : Type 0 where
  pub output : List ℕ
  pub summed : HasSummed rules items count journal output
  pub lines : journal ≡ true → AreLines (lines_in summed.past)
  pub wrote : sink.after ≡ with_bytes sink.before output

-- why they were not, or their summary was not written whole. The answers go to a sink that tells nothing.
abbrev pub IsSumStop : Rules → List Item → ℕ → Bool → Change → FeedStop → Type 0
IsSumStop rules items count journal sink (feed.StartFailed fail) = HasNotStarted rules fail None None × IsLeft sink
IsSumStop rules items count journal sink (feed.JournalFull full) = HasFilled gen_workers rules items full None None × IsLeft sink
IsSumStop rules items count journal sink feed.WriteFault = HasSummedPart rules items count journal sink
IsSumStop rules items count journal sink feed.Memory = IsLeft sink ⊎ HasSummedPart rules items count journal sink

-- ---- by the status

-- so many requests that are made were fed to the site of the one page, and all that belongs to them was written
pub record GeneratesAll (count : ℕ) (journal : Bool) (sink : Change) : Type 0 where
  pub site : Site
  pub accepted : IsAccepted count_files site
  pub all : HasSummedAll (rules_for false site (generated count)) (generated count).items count journal sink

-- so many requests that are made were fed to the site of the one page
pub record HasGenerated (count : ℕ) (journal : Bool) (output : List ℕ) : Type 0 where
  pub site : Site
  pub accepted : IsAccepted count_files site
  pub summed : HasSummed (rules_for false site (generated count)) (generated count).items count journal output

-- the first run of the site failed
pub record FailsGenerated (count : ℕ) (fail : Fail) : Type 0 where
  pub site : Site
  pub accepted : IsAccepted count_files site
  pub failed : HasNotStarted (rules_for false site (generated count)) fail None None

-- they were fed in part, until the journal was full
pub record FillsGenerated (count : ℕ) (full : Full) : Type 0 where
  pub site : Site
  pub accepted : IsAccepted count_files site
  pub filled : HasFilled gen_workers (rules_for false site (generated count)) (generated count).items full None None

-- the requests were fed, and a first part of what belongs to them was written
abbrev pub GeneratesPart : ℕ → Bool → Change → Type 0
GeneratesPart count journal sink =
    (output : List ℕ) × HasGenerated count journal output × AddsPart sink.before sink.after output

-- What `gen` ran and wrote, by its status. It never answers that its own page is refused.
abbrev pub GenWrites : ℕ → Bool → Change → Status → Type 0
GenWrites count journal sink Ok = GeneratesAll count journal sink
GenWrites count journal sink WriteFault = GeneratesPart count journal sink
GenWrites count journal sink Memory = IsLeft sink ⊎ GeneratesPart count journal sink
GenWrites count journal sink (JournalFull full) = FillsGenerated count full × IsLeft sink
GenWrites count journal sink (StartFailed fail) = FailsGenerated count fail × IsLeft sink
GenWrites count journal sink (SiteRefused fault) = ⊥
GenWrites count journal sink ReadFault = ⊥
GenWrites count journal sink (RecordRefused offset) = ⊥
GenWrites count journal sink Usage = ⊥
GenWrites count journal sink AcceptFault = ⊥

-- how `gen` ends: its source is left as it was
abbrev pub GenEnds : ℕ → Bool → Around → Status → Type 0
GenEnds count journal around status = IsLeft around.source × GenWrites count journal around.sink status
