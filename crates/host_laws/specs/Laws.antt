-- Laws of the host's commands, over the statements by which they end.
use Rattle.std.specs.Prelude.{◌≡◌, ℕ, ◌^◌, ◌<◌, Bool, true, List, ◌++◌, Some, None, length, map, Result, Err, false}
use Rattle.std.specs.Prelude.{Ok as Given}
use Rattle.vb_value.specs.declared.site_file.SiteFile.{SiteFile}
use Rattle.asp_journal.specs.declared.full.Full.{Full}
use Rattle.asp_core.specs.Laws.{NoneIs}
use Rattle.asp_get.specs.Answered.{HasAnswered, IsGetStop}
use Rattle.asp_get.specs.declared.stop.GetStop.{GetStop}
use Rattle.asp_get.specs.declared.stop.GetStop.TheVariants as stop
use Rattle.asp_io.specs.Folder.{AreSitePaths, path_of}
use Rattle.asp_io.specs.Sink.{with_bytes}
use Rattle.asp_job.specs.declared.answer.Answer.{Answer}
use Rattle.asp_job.specs.declared.answer.Fail.{Fail}
use Rattle.asp_job.specs.declared.entry.Entry.{Entry}
use Rattle.asp_job.specs.declared.job.Job.{Job}
use Rattle.asp_job.specs.Journal.{IsValidJournal}
use Rattle.asp_job.specs.Rules.{Rules}
use Rattle.asp_record.specs.declared.recording.Item.{Item}
use Rattle.asp_record.specs.declared.recording.Recording.{Recording}
use Rattle.asp_record.specs.EntryLines.{printed}
use Rattle.asp_record.specs.Generated.{count_files, generated}
use Rattle.asp_record.specs.Recorded.{Stands}
use Rattle.asp_replay.specs.Feed.{HasFailed}
use Rattle.asp_replay.specs.Sequential.{is_memory_end}
use Rattle.asp_site.specs.declared.site.Site.{Site}
use Rattle.site_load.specs.Accepted.{IsAccepted}
use Rattle.asp_host.specs.declared.status.Status.{Status}
use Rattle.asp_host.specs.declared.status.Status.TheVariants.{Ok, Memory, ReadFault, WriteFault, JournalFull, AcceptFault}
use Rattle.asp_host.specs.Around.{Around, Change}
use Rattle.asp_host.specs.Check.{CheckEnds}
use Rattle.asp_host.specs.Gen.{FillsGenerated, GenEnds, GeneratesAll, gen_workers}
use Rattle.asp_host.specs.Get.{GetEnds, site_rules}
use Rattle.asp_host.specs.Replay.{Fills, ReplayEnds, ReplaysAll, rules_for}
use Rattle.asp_host.specs.Replayed.{HasFilled}
use Rattle.asp_host.specs.Request.{job_of}
use Rattle.asp_host.specs.Serve.{ServeEnds, rules_from}
use Rattle.asp_host.specs.Serve as serve
use Rattle.asp_serve.specs.Hosts.{HasFailedToStart}

-- ---- what is told

-- the folder tells these files, each under a path of its own
pub record TellsFiles (around : Around) (files : List SiteFile) : Type 0 where
  pub told : around.files ≡ Some files
  pub paths : AreSitePaths (map path_of files)

-- the folder tells its files, and they are this site
pub record TellsSite (around : Around) (site : Site) : Type 0 where
  pub files : List SiteFile
  pub tells : TellsFiles around files
  pub accepted : IsAccepted files site

-- the source tells its bytes, and they are this recording to their end
pub record TellsRecording (around : Around) (recording : Recording) : Type 0 where
  pub bytes : List ℕ
  pub told : around.source.before ≡ Some bytes
  pub stands : Stands bytes recording (length bytes)

-- ---- a site

-- a folder is one site
abbrev pub OneSite : Type 0
OneSite = (files : List SiteFile) (site other : Site) → AreSitePaths (map path_of files) → IsAccepted files site
    → IsAccepted files other → site ≡ other

-- ---- a request

-- What a request to a host of its own comes to: an answer, or a stop that is not for want of memory.
abbrev pub IsOutcome : Rules → Job → Result Answer GetStop → Type 0
IsOutcome rules job (Given answer) = HasAnswered rules job answer
IsOutcome rules job (Err stop.Memory) = ⊥
IsOutcome rules job (Err ended) = IsGetStop rules job ended

-- it comes to one
abbrev pub OneOutcome : Type 0
OneOutcome = (rules : Rules) (job : Job) (one other : Result Answer GetStop) → IsOutcome rules job one
    → IsOutcome rules job other → one ≡ other

-- ---- what is refused

-- The command did all of its work, memory ran out, or the folder, the source, the sink or the wire failed: nothing was
-- refused.
abbrev pub IsNoRefusal : Status → Type 0
IsNoRefusal Ok = Unit {0}
IsNoRefusal Memory = Unit {0}
IsNoRefusal ReadFault = Unit {0}
IsNoRefusal WriteFault = Unit {0}
IsNoRefusal AcceptFault = Unit {0}
IsNoRefusal _ = ⊥

-- no valid journal to which nothing came shows a first run that failed
abbrev pub NeverFails : Rules → Type 0
NeverFails rules = (past : List Entry) (fail : Fail) → IsValidJournal rules past → ¬ (HasFailed rules past fail)

-- no valid journal shows one, whatever came to it
abbrev pub NeverFailsToStart : Rules → Type 0
NeverFailsToStart rules = (fail : Fail) → ¬ (HasFailedToStart rules fail)

-- in no valid journal that is fed with the items, or with the first of them, by so many workers, and in which no run ended
-- because memory ran out, was what could come next too much
abbrev pub NeverFills : ℕ → Rules → List Item → Type 0
NeverFills workers rules items = (full : Full) (filled : HasFilled workers rules items full None None)
    → ¬ (NoneIs is_memory_end filled.0)

-- a replay, or a `gen`, refused nothing, unless its journal came to be full after memory had run out for a run
abbrev pub ReplaysUnrefused : ℕ → Bool → Around → Status → Type 0
ReplaysUnrefused workers strict around (JournalFull full) =
    (fills : Fills workers strict around.files around.source around.sink full) × ¬ (NoneIs is_memory_end fills.filled.0)
ReplaysUnrefused workers strict around status = IsNoRefusal status

abbrev pub GeneratesUnrefused : ℕ → Status → Type 0
GeneratesUnrefused count (JournalFull full) =
    (fills : FillsGenerated count full) × ¬ (NoneIs is_memory_end fills.filled.0)
GeneratesUnrefused count status = IsNoRefusal status

-- a host that serves refused nothing, unless at some point of its journal something did not fit
abbrev pub ServesUnrefused : Bool → Around → Status → Type 0
ServesUnrefused strict around (JournalFull full) = serve.Fills around.files around.seed strict full
ServesUnrefused strict around status = IsNoRefusal status

-- `check` refuses no folder that is a site
abbrev pub CheckRefusesNone : Type 0
CheckRefusesNone = (around : Around) (site : Site) (status : Status) → TellsSite around site
    → CheckEnds around status → IsNoRefusal status

-- `get` refuses no request that the history of one lane answers
abbrev pub GetRefusesNone : Type 0
GetRefusesNone = (path query : List ℕ) (around : Around) (site : Site) (answer : Answer) (status : Status)
    → TellsSite around site → HasAnswered (site_rules site) (job_of path query) answer
    → GetEnds path query around status → IsNoRefusal status

-- `replay` refuses no recording for a site whose application never fails to begin with its seed, where no journal that
-- its items feed by as many workers comes to be full before memory runs out for a run
abbrev pub ReplayRefusesNone : Type 0
ReplayRefusesNone = (workers : ℕ) (journal strict : Bool) (around : Around) (site : Site) (recording : Recording)
    (status : Status)
    → TellsSite around site → TellsRecording around recording → NeverFails (rules_for strict site recording)
    → NeverFills workers (rules_for strict site recording) recording.items
    → ReplayEnds workers journal strict around status
    → ReplaysUnrefused workers strict around status

-- `gen` refuses nothing, where its one page is a site whose application never fails to begin, and no journal that its
-- requests feed comes to be full before memory runs out for a run
abbrev pub GenRefusesNone : Type 0
GenRefusesNone = (count : ℕ) (journal : Bool) (around : Around) (status : Status)
    → ((site : Site) → IsAccepted count_files site → NeverFails (rules_for false site (generated count)))
    → ((site : Site) → IsAccepted count_files site
    → NeverFills gen_workers (rules_for false site (generated count)) (generated count).items)
    → GenEnds count journal around status → GeneratesUnrefused count status

-- `serve` refuses no site whose application never fails to begin with its seed
abbrev pub ServeRefusesNone : Type 0
ServeRefusesNone = (requests : ℕ) (strict : Bool) (around : Around) (site : Site) (status : Status) → TellsSite around site
    → NeverFailsToStart (rules_from site around.seed strict) → ServeEnds requests strict around status
    → ServesUnrefused strict around status

-- ---- what is written

-- a replay to the end by one worker, in whose journal no run ended because memory ran out
pub record ReplaysWell (journal strict : Bool) (around : Around) : Type 0 where
  pub all : ReplaysAll 1 journal strict around.files around.source around.sink
  pub enough : NoneIs is_memory_end all.replayed.past

-- both leave the same bytes behind what their sinks held
abbrev pub AreAddedAlike : Change → Change → Type 0
AreAddedAlike sink other = (output : List ℕ) × (sink.after ≡ with_bytes sink.before output)
    × (other.after ≡ with_bytes other.before output)

-- two such replays of the same files and the same bytes of a source, both with the word for the strict rule or both without,
-- leave the same
abbrev pub OneReplayOutput : Type 0
OneReplayOutput = (journal strict : Bool) (files : List SiteFile) (bytes : List ℕ) (around other : Around)
    → TellsFiles around files → TellsFiles other files → around.source.before ≡ Some bytes
    → other.source.before ≡ Some bytes → ReplaysWell journal strict around → ReplaysWell journal strict other
    → AreAddedAlike around.sink other.sink

-- the source tells these bytes, and the sink that it was left with this output behind what it held
pub record TellsOutput (around : Around) (bytes output : List ℕ) : Type 0 where
  pub read : around.source.before ≡ Some bytes
  pub held : List ℕ
  pub before : around.sink.before ≡ Some held
  pub after : around.sink.after ≡ Some (held ++ output)

-- Two replays to the end with `--journal` that read the same bytes and wrote the same, whatever their sites and rules and
-- however many workers each had, have the same entries in their journals, but for the answers that were handed out and halts, which
-- have no line.
abbrev pub OneReplayJournal : Type 0
OneReplayJournal = (workers others : ℕ) (strict lock : Bool) (bytes output : List ℕ) (around other : Around)
    → TellsOutput around bytes output → TellsOutput other bytes output → length output < 2 ^ 64
    → (one : ReplaysAll workers true strict around.files around.source around.sink)
    → (also : ReplaysAll others true lock other.files other.source other.sink)
    → printed one.replayed.past ≡ printed also.replayed.past

-- the sink was left with this output behind what it held
pub record TellsWritten (sink : Change) (output : List ℕ) : Type 0 where
  pub held : List ℕ
  pub before : sink.before ≡ Some held
  pub after : sink.after ≡ Some (held ++ output)

-- two `gen`s of so many requests with `--journal` that wrote the same have the same entries in their journals, but for
-- those that have no line
abbrev pub OneGenJournal : Type 0
OneGenJournal = (count : ℕ) (output : List ℕ) (sink other : Change) → TellsWritten sink output
    → TellsWritten other output → (one : GeneratesAll count true sink) → (also : GeneratesAll count true other)
    → printed one.all.summed.past ≡ printed also.all.summed.past

-- two answers of `get` to one request for the same files leave the same
abbrev pub OneGetOutput : Type 0
OneGetOutput = (path query : List ℕ) (files : List SiteFile) (around other : Around) → TellsFiles around files
    → TellsFiles other files → GetEnds path query around Ok → GetEnds path query other Ok
    → AreAddedAlike around.sink other.sink
