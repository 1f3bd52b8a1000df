-- The pages and the events of files, one after the other.
use Rattle.std.proofs.Common.{◌≡◌, ◌∙◌, ℕ, suc, ◌+◌, ◌<◌, ◌≤◌, List, [], ◌∷◌, ◌++◌, length, take, drop, get_or, map}
use Rattle.std.proofs.Common.{arith, refl, sym, ap, subst}
use Rattle.std.proofs.Common.{Err, Option, None, Some, append-nil, append_assoc, drop-cons, add-one}
use Rattle.std.proofs.lemmas.List.{take-append-drop, take_all, take_more}
use Rattle.std.specs.Option.{option_or}
use Rattle.vb_value.specs.declared.site_file.SiteFile.{SiteFile}
use Rattle.vb_value.specs.declared.site_file.SiteFault.{SiteFault}
use Rattle.asp_site.specs.declared.site.Page.{Page}
use Rattle.page_read.specs.Reading.{OnSiteFault}
use Rattle.page_read.specs.declared.located.SiteStop.{SiteStop}
use Rattle.page_read.specs.declared.located.SiteStop.TheVariants as stops
use Rattle.site_load.specs.Accepted.{AddsFile, AreRuns, IsFileFault, IsFirstFault, no_runs, role_of}
use Rattle.site_load.specs.Stopping.{joined}
use Rattle.site_load.specs.declared.building.Role.{Role}
use Rattle.site_load.specs.declared.building.Role.TheVariants as role
use Rattle.site_load.specs.declared.building.RunPages.{RunPages}

-- nothing behind changes nothing
or_none : (found : Option Page) → option_or found None ≡ found
or_none None = refl
or_none (Some page) = refl

joined_none : (runs : RunPages) → joined runs no_runs ≡ runs
joined_none runs = ap (λ (pages : List Page). record { pages = pages; events = option_or runs.events None })
    (append-nil runs.pages)
    ∙ ap (λ (events : Option Page). record { pages = runs.pages; events = events }) (or_none runs.events)

-- what a file adds before some, it adds before those and more
adds_before : (files : List SiteFile) (file : SiteFile) (is : Role) (later runs more : RunPages)
    → AddsFile files file is later runs → AddsFile files file is (joined later more) (joined runs more)
adds_before files file role.Page later runs more adds =
    (adds.0, adds.1, ap (λ (one : RunPages). joined one more) adds.2)
adds_before files file role.Events later runs more adds =
    (adds.0, adds.1, ap (λ (one : RunPages). joined one more) adds.2)
adds_before files file role.Other later runs more adds = ap (λ (one : RunPages). joined one more) adds

-- the pages and events of files, and of those behind them
runs_joined : (files front back : List SiteFile) (runs more : RunPages) → AreRuns files front runs → AreRuns files back more
    → AreRuns files (front ++ back) (joined runs more)
runs_joined files [] back runs more is also =
    subst (λ (one : RunPages). AreRuns files back (joined one more)) (sym is) also
runs_joined files (file ∷ front) back runs more is also = (
  joined is.0 more,
  runs_joined files front back is.0 more is.1 also,
  adds_before files file (role_of file.path) is.0 runs more is.2,
)

-- the files up to one more
longer : (files : List SiteFile) (at : ℕ) (file : SiteFile) → at < length files → file ≡ get_or files at file
    → take (at + 1) files ≡ take at files ++ file ∷ []
longer files at file within is =
    take_more files at file within ∙ ap (λ (one : SiteFile). take at files ++ one ∷ []) (sym is)

pub one_more : (files : List SiteFile) (at : ℕ) (file : SiteFile) (runs more : RunPages) → at < length files
    → file ≡ get_or files at file → AreRuns files (take at files) runs → AreRuns files (file ∷ []) more
    → AreRuns files (take (at + 1) files) (joined runs more)
one_more files at file runs more within is so_far one =
    subst (λ (front : List SiteFile). AreRuns files front (joined runs more)) (sym (longer files at file within is))
    (runs_joined files (take at files) (file ∷ []) runs more so_far one)

pub all_runs : (files : List SiteFile) (at : ℕ) (runs : RunPages) → length files ≤ at → AreRuns files (take at files) runs
    → AreRuns files files runs
all_runs files at runs past so_far =
    subst (λ (front : List SiteFile). AreRuns files front runs) (take_all at files past) so_far

-- a list cut at a place
cut_at : (files : List SiteFile) (at : ℕ) (file : SiteFile) → at < length files → file ≡ get_or files at file
    → files ≡ take at files ++ file ∷ drop (at + 1) files
cut_at files at file within is =
    let rest : drop at files ≡ file ∷ drop (at + 1) files =
    rw add-one (drop-cons files at file within ∙ ap (λ (one : SiteFile). one ∷ drop (suc at) files) (sym is)) in
    sym (take-append-drop at files) ∙ ap (λ (back : List SiteFile). take at files ++ back) rest

pub fault_there : (files : List SiteFile) (at : ℕ) (file : SiteFile) (runs : RunPages) (fault : SiteFault)
    → at < length files → file ≡ get_or files at file → AreRuns files (take at files) runs
    → IsFileFault files file (role_of file.path) fault → IsFirstFault files fault
fault_there files at file runs fault within is so_far faulty = record {
  before = take at files;
  file = file;
  after = drop (at + 1) files;
  cut = cut_at files at file within is;
  runs = runs;
  faultless = so_far;
  at_file = faulty;
}

-- a call stops at the file's fault
pub file_stops : (files : List SiteFile) (at : ℕ) (file : SiteFile) (runs : RunPages) (stop : SiteStop) → at < length files
    → file ≡ get_or files at file → AreRuns files (take at files) runs
    → OnSiteFault {T = RunPages} (Err stop) (IsFileFault files file (role_of file.path))
    → OnSiteFault {T = RunPages} (Err stop) (IsFirstFault files)
file_stops files at file runs (stops.Fault fault) within is so_far faulty =
    fault_there files at file runs fault within is so_far faulty
file_stops files at file runs stops.Memory within is so_far faulty = tt

-- the pages and events of a file of this role
pub of_role : (files : List SiteFile) (file : SiteFile) (is : Role) (runs : RunPages) → is ≡ role_of file.path
    → AddsFile files file is no_runs runs → AreRuns files (file ∷ []) runs
of_role files file is runs same adds =
    (no_runs, refl, subst (λ (one : Role). AddsFile files file one no_runs runs) same adds)
