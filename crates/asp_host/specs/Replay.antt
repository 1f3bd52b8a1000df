-- How `replay` ends, by its status, and what it then leaves in the sink.
use Rattle.std.specs.Prelude.{◌⊎◌, ◌||◌, ℕ, Bool, IfSome, List, Option}
use Rattle.vb_value.specs.declared.site_file.SiteFile.{SiteFile}
use Rattle.asp_journal.specs.declared.full.Full.{Full}
use Rattle.asp_core.specs.Kernel.{rules_by, setting_of}
use Rattle.asp_job.specs.declared.answer.Fail.{Fail}
use Rattle.asp_job.specs.Rules.{Rules}
use Rattle.asp_record.specs.declared.recording.Recording.{Recording}
use Rattle.asp_acts.specs.Running.{meaning_of}
use Rattle.asp_replay.specs.declared.stop.FeedStop.{FeedStop}
use Rattle.asp_replay.specs.declared.stop.FeedStop.TheVariants as stop
use Rattle.asp_site.specs.declared.site.Site.{Site}
use Rattle.site_load.specs.Accepted.{IsAccepted, IsFolderFault}
use Rattle.asp_host.specs.declared.status.Status.{Status}
use Rattle.asp_host.specs.declared.status.Status.TheVariants.{Ok, Memory, Usage, SiteRefused, StartFailed}
use Rattle.asp_host.specs.declared.status.Status.TheVariants.{ReadFault, WriteFault, RecordRefused, JournalFull, AcceptFault}
use Rattle.asp_host.specs.Around.{Around, Change, IsLeft}
use Rattle.asp_host.specs.Input.{IsAllRecording, IsSourceRefusedAt}
use Rattle.asp_host.specs.Replayed.{HasFilled, HasNotStarted, HasReplayed, HasReplayedPart}

-- a recording with the rule of its lock: the lock keeps readers out where the word or the recording says so
abbrev pub with_rule : Bool → Recording → Recording
with_rule strict recording = record recording { strict = strict || recording.strict }

-- what the journal of a replay is held against, with that word or without
abbrev pub rules_for : Bool → Site → Recording → Rules
rules_for strict site recording =
    rules_by (meaning_of site) (setting_of recording.seed (with_rule strict recording).strict)

-- the files that are told are this site, and all that the source had is this recording
pub record IsFor (files : Option (List SiteFile)) (source : Change) (site : Site) (recording : Recording) : Type 0 where
  pub accepted : IfSome files (λ all. IsAccepted all site)
  pub whole : IsAllRecording source.before source.after recording

-- a site and its recording were replayed to the end, by so many workers; in part; until the journal was full
pub record ReplaysAll (workers : ℕ) (journal strict : Bool) (files : Option (List SiteFile)) (source sink : Change) :
    Type 0 where
  pub site : Site
  pub recording : Recording
  pub is_for : IsFor files source site recording
  pub replayed : HasReplayed workers (rules_for strict site recording) recording.items journal sink.before sink.after

pub record ReplaysPart (journal strict : Bool) (ended : FeedStop) (files : Option (List SiteFile)) (source sink : Change) :
    Type 0 where
  pub site : Site
  pub recording : Recording
  pub is_for : IsFor files source site recording
  pub replayed : HasReplayedPart (rules_for strict site recording) recording.items journal ended sink.before sink.after

pub record Fills (workers : ℕ) (strict : Bool) (files : Option (List SiteFile)) (source sink : Change) (full : Full) :
    Type 0 where
  pub site : Site
  pub recording : Recording
  pub is_for : IsFor files source site recording
  pub filled : HasFilled workers (rules_for strict site recording) recording.items full sink.before sink.after

-- the source is refused there, where the files that are told are a site
pub record HasRefused (files : Option (List SiteFile)) (source : Change) (offset : ℕ) : Type 0 where
  pub site : Site
  pub accepted : IfSome files (λ all. IsAccepted all site)
  pub refused : IfSome source.before (λ all. IsSourceRefusedAt all offset)

-- the application fails to begin so, on a host with the recording's seed, and nothing is written
pub record FailsToBegin (strict : Bool) (files : Option (List SiteFile)) (source sink : Change) (fail : Fail) : Type 0 where
  pub site : Site
  pub recording : Recording
  pub is_for : IsFor files source site recording
  pub failed : HasNotStarted (rules_for strict site recording) fail sink.before sink.after

-- what `replay` with so many workers ran and wrote, by its status
abbrev pub ReplayWrites : ℕ → Bool → Bool → Option (List SiteFile) → Change → Change → Status → Type 0
ReplayWrites workers journal strict files source sink Ok = ReplaysAll workers journal strict files source sink
ReplayWrites workers journal strict files source sink (JournalFull full) = Fills workers strict files source sink full
ReplayWrites workers journal strict files source sink WriteFault = ReplaysPart journal strict stop.WriteFault files source sink
ReplayWrites workers journal strict files source sink Memory =
    IsLeft sink ⊎ ReplaysPart journal strict stop.Memory files source sink
ReplayWrites workers journal strict files source sink (RecordRefused offset) = HasRefused files source offset × IsLeft sink
ReplayWrites workers journal strict files source sink (SiteRefused fault) =
    IfSome files (λ all. IsFolderFault all fault) × IsLeft source × IsLeft sink
ReplayWrites workers journal strict files source sink (StartFailed fail) = FailsToBegin strict files source sink fail
ReplayWrites workers journal strict files source sink ReadFault = IsLeft sink
ReplayWrites workers journal strict files source sink Usage = ⊥
ReplayWrites workers journal strict files source sink AcceptFault = ⊥

-- how `replay` ends
abbrev pub ReplayEnds : ℕ → Bool → Bool → Around → Status → Type 0
ReplayEnds workers journal strict around status =
    ReplayWrites workers journal strict around.files around.source around.sink status
