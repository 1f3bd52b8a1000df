-- This crate's own: how a command ends once its folder was read, whichever files were this site.
use Rattle.std.specs.Prelude.{◌≡◌, ℕ, Bool, IfSome, List, Option}
use Rattle.vb_value.specs.declared.site_file.SiteFile.{SiteFile}
use Rattle.asp_record.specs.declared.recording.Recording.{Recording}
use Rattle.asp_site.specs.declared.site.Site.{Site}
use Rattle.site_load.specs.Accepted.{IsAccepted}
use Rattle.asp_host.specs.declared.status.Status.{Status}
use Rattle.asp_host.specs.Around.{Change}
use Rattle.asp_host.specs.Check.{CheckWrites}
use Rattle.asp_host.specs.Get.{GetWrites}
use Rattle.asp_host.specs.Replay.{IsFor, ReplayWrites, with_rule}
use Rattle.asp_host.specs.Serve.{ServeMeets}

-- what `check` wrote, by its status
abbrev pub CheckWritesOf : Site → Change → Status → Type 0
CheckWritesOf site sink status = (files : Option (List SiteFile)) → IfSome files (λ all. IsAccepted all site)
    → CheckWrites files sink status

-- what `get` ran and wrote
abbrev pub GetWritesOf : List ℕ → List ℕ → Site → Change → Status → Type 0
GetWritesOf path query site sink status = (files : Option (List SiteFile))
    → IfSome files (λ all. IsAccepted all site) → GetWrites path query files sink status

-- what `replay` ran and wrote
abbrev pub ReplayWritesOf : ℕ → Bool → Bool → Site → Change → Change → Status → Type 0
ReplayWritesOf workers journal strict site source sink status = (files : Option (List SiteFile))
    → IfSome files (λ all. IsAccepted all site) → ReplayWrites workers journal strict files source sink status

-- the same once its recording was read too, and has the rule of the word, whichever source had it
abbrev pub RecordingWritesOf : ℕ → Bool → Bool → Site → Recording → Change → Status → Type 0
RecordingWritesOf workers journal strict site recording sink status = (files : Option (List SiteFile)) (source : Change)
    (read : Recording) → IsFor files source site read → recording ≡ with_rule strict read
    → ReplayWrites workers journal strict files source sink status

-- what `serve` came to
abbrev pub ServeMeetsOf : ℕ → Site → List ℕ → Bool → Bool → Status → Type 0
ServeMeetsOf requests site seed strict ends status = (files : Option (List SiteFile))
    → IfSome files (λ all. IsAccepted all site) → ServeMeets requests files seed strict ends status
