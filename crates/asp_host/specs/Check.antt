-- How `check` ends, by its status, and what it then leaves in the sink.
use Rattle.std.specs.Prelude.{◌≡◌, ℕ, IfSome, List, ◌∷◌, [], ◌++◌, Option, codes, length}
use Rattle.std.specs.Fmt.{decimal}
use Rattle.vb_value.specs.declared.site_file.SiteFile.{SiteFile}
use Rattle.asp_io.specs.Copying.{AddsPart}
use Rattle.asp_io.specs.Sink.{with_bytes}
use Rattle.asp_site.specs.declared.site.Site.{Site}
use Rattle.site_load.specs.Accepted.{IsAccepted, IsFolderFault}
use Rattle.asp_host.specs.declared.status.Status.{Status}
use Rattle.asp_host.specs.declared.status.Status.TheVariants.{Ok, Memory, Usage, SiteRefused, StartFailed}
use Rattle.asp_host.specs.declared.status.Status.TheVariants.{ReadFault, WriteFault, RecordRefused, JournalFull, AcceptFault}
use Rattle.asp_host.specs.Around.{Around, Change, IsLeft}

-- how many pages and how many static files a site has, as one line
abbrev pub count_line : Site → List ℕ
count_line site = codes "accepted " ++ decimal (length site.pages) ++ codes " pages, "
    ++ decimal (length site.statics) ++ codes " files" ++ 10 ∷ []

-- the line counts the site that the files are which are told
pub record IsCounted (files : Option (List SiteFile)) (line : List ℕ) : Type 0 where
  pub site : Site
  pub accepted : IfSome files (λ all. IsAccepted all site)
  pub line_is : line ≡ count_line site

-- what `check` wrote, by its status
abbrev pub CheckWrites : Option (List SiteFile) → Change → Status → Type 0
CheckWrites files sink Ok = (line : List ℕ) × IsCounted files line × (sink.after ≡ with_bytes sink.before line)
CheckWrites files sink WriteFault = (line : List ℕ) × IsCounted files line × AddsPart sink.before sink.after line
CheckWrites files sink (SiteRefused fault) = IfSome files (λ all. IsFolderFault all fault) × IsLeft sink
CheckWrites files sink ReadFault = IsLeft sink
CheckWrites files sink Memory = IsLeft sink
CheckWrites files sink Usage = ⊥
CheckWrites files sink (RecordRefused offset) = ⊥
CheckWrites files sink (JournalFull full) = ⊥
CheckWrites files sink (StartFailed fail) = ⊥
CheckWrites files sink AcceptFault = ⊥

-- how `check` ends: its source is left as it was
abbrev pub CheckEnds : Around → Status → Type 0
CheckEnds around status = IsLeft around.source × CheckWrites around.files around.sink status
