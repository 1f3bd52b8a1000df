-- How `serve` ends, by its status. What it writes goes to connections, and nothing to the sink.
use Rattle.std.specs.Prelude.{ℕ, Bool, IfSome, List, Option, false}
use Rattle.vb_value.specs.declared.site_file.SiteFile.{SiteFile}
use Rattle.asp_journal.specs.declared.full.Full.{Full}
use Rattle.asp_acts.specs.Running.{meaning_of}
use Rattle.asp_core.specs.Kernel.{rules_by, setting_of}
use Rattle.asp_job.specs.declared.answer.Fail.{Fail}
use Rattle.asp_job.specs.Rules.{Rules}
use Rattle.asp_serve.specs.Hosts.{HasFailedToStart, HasFilled, HasRunOut}
use Rattle.asp_site.specs.declared.site.Site.{Site}
use Rattle.site_load.specs.Accepted.{IsAccepted, IsFolderFault}
use Rattle.asp_host.specs.declared.status.Status.{Status}
use Rattle.asp_host.specs.declared.status.Status.TheVariants.{Ok, Memory, Usage, SiteRefused, StartFailed}
use Rattle.asp_host.specs.declared.status.Status.TheVariants.{ReadFault, WriteFault, RecordRefused, JournalFull, AcceptFault}
use Rattle.asp_host.specs.Around.{Around, IsLeft}

-- what the journal of a host of the site with that seed and that rule of its lock is held against
abbrev pub rules_from : Site → List ℕ → Bool → Rules
rules_from site seed strict = rules_by (meaning_of site) (setting_of seed strict)

-- The files that are told are a site, and a host of it, with that seed, served to its end: so many requests came at least,
-- unless its wire may come to an end.
pub record ServesAll (requests : ℕ) (files : Option (List SiteFile)) (seed : List ℕ) (strict ends : Bool) : Type 0 where
  pub site : Site
  pub accepted : IfSome files (λ all. IsAccepted all site)
  pub served : HasRunOut (rules_from site seed strict) ends requests

-- they are a site whose application fails to begin so
pub record FailsToBegin (files : Option (List SiteFile)) (seed : List ℕ) (strict : Bool) (fail : Fail) : Type 0 where
  pub site : Site
  pub accepted : IfSome files (λ all. IsAccepted all site)
  pub failed : HasFailedToStart (rules_from site seed strict) fail

-- they are a site whose application began, and at some point of its journal something did not fit
pub record Fills (files : Option (List SiteFile)) (seed : List ℕ) (strict : Bool) (full : Full) : Type 0 where
  pub site : Site
  pub accepted : IfSome files (λ all. IsAccepted all site)
  pub filled : HasFilled (rules_from site seed strict) full

-- they are a site
abbrev pub AreSite : Option (List SiteFile) → Type 0
AreSite files = (site : Site) × IfSome files (λ all. IsAccepted all site)

-- what `serve` came to, by its status
abbrev pub ServeMeets : ℕ → Option (List SiteFile) → List ℕ → Bool → Bool → Status → Type 0
ServeMeets requests files seed strict ends Ok = ServesAll requests files seed strict ends
ServeMeets requests files seed strict ends (StartFailed fail) = FailsToBegin files seed strict fail
ServeMeets requests files seed strict ends (JournalFull full) = Fills files seed strict full
ServeMeets requests files seed strict ends AcceptFault = AreSite files
ServeMeets requests files seed strict ends (SiteRefused fault) = IfSome files (λ all. IsFolderFault all fault)
ServeMeets requests files seed strict ends ReadFault = Unit {0}
ServeMeets requests files seed strict ends Memory = Unit {0}
ServeMeets requests files seed strict ends Usage = ⊥
ServeMeets requests files seed strict ends WriteFault = ⊥
ServeMeets requests files seed strict ends (RecordRefused offset) = ⊥

-- how `serve` ends: its source and its sink are left as they were
abbrev pub ServeEnds : ℕ → Bool → Around → Status → Type 0
ServeEnds requests strict around status = IsLeft around.source × IsLeft around.sink
    × ServeMeets requests around.files around.seed strict around.wire_ends status
