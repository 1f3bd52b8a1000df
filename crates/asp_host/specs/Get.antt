-- How `get` ends, by its status, and what it then leaves in the sink.
use Rattle.std.specs.Prelude.{◌≡◌, ℕ, IfSome, List, Option, false, replicate}
use Rattle.vb_value.specs.declared.site_file.SiteFile.{SiteFile}
use Rattle.asp_journal.specs.declared.full.Full.{Full}
use Rattle.asp_core.specs.Kernel.{rules_by, setting_of}
use Rattle.asp_get.specs.Answered.{HasAnswered, HasFailed, WasTooMuch}
use Rattle.asp_io.specs.Copying.{AddsPart}
use Rattle.asp_io.specs.Sink.{with_bytes}
use Rattle.asp_job.specs.declared.answer.Answer.{Answer}
use Rattle.asp_job.specs.declared.answer.Fail.{Fail}
use Rattle.asp_job.specs.Rules.{Rules}
use Rattle.asp_acts.specs.Running.{meaning_of}
use Rattle.asp_site.specs.declared.site.Site.{Site}
use Rattle.site_load.specs.Accepted.{IsAccepted, IsFolderFault}
use Rattle.asp_host.specs.declared.status.Status.{Status}
use Rattle.asp_host.specs.declared.status.Status.TheVariants.{Ok, Memory, Usage, SiteRefused, StartFailed}
use Rattle.asp_host.specs.declared.status.Status.TheVariants.{ReadFault, WriteFault, RecordRefused, JournalFull, AcceptFault}
use Rattle.asp_host.specs.Around.{Around, Change, IsLeft}
use Rattle.asp_host.specs.Request.{job_of}

-- a seed of 32 zero bytes
abbrev pub zero_seed : List ℕ
zero_seed = replicate 32 0

-- what the journal of a host of the site with that seed is held against
abbrev pub site_rules : Site → Rules
site_rules site = rules_by (meaning_of site) (setting_of zero_seed false)

-- The files that are told are a site, and on a host of it the request for the path with the query has this answer.
pub record IsAnswer (path query : List ℕ) (files : Option (List SiteFile)) (answer : Answer) : Type 0 where
  pub site : Site
  pub accepted : IfSome files (λ all. IsAccepted all site)
  pub answered : HasAnswered (site_rules site) (job_of path query) answer

-- they are a site whose application fails to begin so
pub record FailsToBegin (files : Option (List SiteFile)) (fail : Fail) : Type 0 where
  pub site : Site
  pub accepted : IfSome files (λ all. IsAccepted all site)
  pub failed : HasFailed (site_rules site) fail

-- they are a site, and with the request the journal would be so full
pub record IsFull (path query : List ℕ) (files : Option (List SiteFile)) (full : Full) : Type 0 where
  pub site : Site
  pub accepted : IfSome files (λ all. IsAccepted all site)
  pub much : WasTooMuch (site_rules site) (job_of path query) full

-- what `get` ran and wrote, by its status
abbrev pub GetWrites : List ℕ → List ℕ → Option (List SiteFile) → Change → Status → Type 0
GetWrites path query files sink Ok =
    (answer : Answer) × IsAnswer path query files answer × (sink.after ≡ with_bytes sink.before answer.body)
GetWrites path query files sink WriteFault =
    (answer : Answer) × IsAnswer path query files answer × AddsPart sink.before sink.after answer.body
GetWrites path query files sink (SiteRefused fault) = IfSome files (λ all. IsFolderFault all fault) × IsLeft sink
GetWrites path query files sink (StartFailed fail) = FailsToBegin files fail × IsLeft sink
GetWrites path query files sink (JournalFull full) = IsFull path query files full × IsLeft sink
GetWrites path query files sink ReadFault = IsLeft sink
GetWrites path query files sink Memory = IsLeft sink
GetWrites path query files sink Usage = ⊥
GetWrites path query files sink (RecordRefused offset) = ⊥
GetWrites path query files sink AcceptFault = ⊥

-- how `get` ends: its source is left as it was, and the sink has what was run
abbrev pub GetEnds : List ℕ → List ℕ → Around → Status → Type 0
GetEnds path query around status =
    IsLeft around.source × GetWrites path query around.files around.sink status
