-- Which site the files of a folder are, and the first fault of those that are none.
use Rattle.std.specs.Prelude.{◌≡◌, ◌⊎◌, ℕ, Bool, true, false, if◌then◌else◌, List, [], ◌∷◌, ◌++◌, filter}
use Rattle.std.specs.Prelude.{Option, Some, None}
use Rattle.std.specs.Option.{option_or}
use Rattle.vb_value.specs.declared.site_file.SiteFault.{SiteFault}
use Rattle.vb_value.specs.declared.site_file.SiteFile.{SiteFile}
use Rattle.page_read.specs.Expansion.{Expands, HasExpansionFault}
use Rattle.page_read.specs.declared.located.Located.{Located}
use Rattle.asp_site.specs.Endings.{is_global, is_page, is_static}
use Rattle.asp_site.specs.declared.site.Page.{Page}
use Rattle.asp_site.specs.declared.site.Site.{Site}
use Rattle.page_build.specs.Building.{HasPageFault, IsPageOf}
use Rattle.site_load.specs.declared.building.Role.{Role}
use Rattle.site_load.specs.declared.building.Role.TheVariants as role
use Rattle.site_load.specs.declared.building.RunPages.{RunPages}
use Rattle.site_load.specs.Files.{IsSiteOf}
use Rattle.site_load.specs.Reading.{IsTooLargeFault}

-- ---- one page

-- what the path of a file says of it: a page, the events, or a file that is not run by itself
abbrev pub role_of : List ℕ → Role
role_of path = if is_page path then role.Page else (if is_global path then role.Events else role.Other)

-- The file at the path is this page, whose includes are files of the site; or with `global` that of the events.
unfoldable pub IsBuilt : List SiteFile → List ℕ → Bool → Page → Type 0
IsBuilt files path global page = (parts : List Located) × Expands files path parts × IsPageOf path parts global page

-- The file at the path has this fault: in the files and includes that it is made of, or else in what they make up.
unfoldable pub HasFault : List SiteFile → List ℕ → Bool → SiteFault → Type 0
HasFault files path global fault = HasExpansionFault files path fault
    ⊎ ((parts : List Located) × Expands files path parts × HasPageFault path parts global fault)

-- ---- the pages of a site

-- no page
abbrev pub no_runs : RunPages
no_runs = record { pages = []; events = None }

-- what a file of the site adds to those of the files behind it
abbrev pub AddsFile : List SiteFile → SiteFile → Role → RunPages → RunPages → Type 0
AddsFile files file role.Page later runs = (page : Page) × IsBuilt files file.path false page
    × (runs ≡ record later { pages = page ∷ later.pages })
AddsFile files file role.Events later runs = (page : Page) × IsBuilt files file.path true page
    × (runs ≡ record later { events = Some page })
AddsFile files file role.Other later runs = runs ≡ later

-- the pages and events of some files of the site
abbrev pub AreRuns : List SiteFile → List SiteFile → RunPages → Type 0
AreRuns files [] runs = runs ≡ no_runs
AreRuns files (file ∷ rest) runs =
    (later : RunPages) × AreRuns files rest later × AddsFile files file (role_of file.path) later runs

-- ---- sites

-- the files are this site: its pages and events in their order, and those files that are served as they are
pub record IsSite (files : List SiteFile) (site : Site) : Type 0 where
  pub runs : AreRuns files files (record { pages = site.pages; events = site.events })
  pub statics : site.statics ≡ filter (λ file. is_static file.path) files

-- the fault of a file by itself
abbrev pub IsFileFault : List SiteFile → SiteFile → Role → SiteFault → Type 0
IsFileFault files file role.Page fault = HasFault files file.path false fault
IsFileFault files file role.Events fault = HasFault files file.path true fault
IsFileFault files file role.Other fault = ⊥

-- the fault is that of the first file that has one
pub record IsFirstFault (files : List SiteFile) (fault : SiteFault) : Type 0 where
  pub before : List SiteFile
  pub file : SiteFile
  pub after : List SiteFile
  pub cut : files ≡ before ++ file ∷ after
  pub runs : RunPages
  pub faultless : AreRuns files before runs
  pub at_file : IsFileFault files file (role_of file.path) fault

-- ---- folders

-- the folder with these files is this site
pub record IsAccepted (all : List SiteFile) (site : Site) : Type 0 where
  pub files : List SiteFile
  pub of_site : IsSiteOf all files
  pub is_site : IsSite files site

-- The first fault of the folder: a file too large or too many, or else a fault of the files that make up its site.
abbrev pub IsFolderFault : List SiteFile → SiteFault → Type 0
IsFolderFault all fault = IsTooLargeFault all fault
    ⊎ ((files : List SiteFile) × IsSiteOf all files × IsFirstFault files fault)
