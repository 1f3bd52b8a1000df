-- What stands in a site at the path that a request names.
use Rattle.std.specs.Prelude.{◌≡◌, ℕ, if◌then◌else◌, List, [], ◌++◌, codes, find, Option, None, Some}
use Rattle.vb_value.specs.Folding.{same_name}
use Rattle.vb_value.specs.declared.site_file.SiteFile.{SiteFile}
use Rattle.asp_site.specs.Endings.{has_ending}
use Rattle.asp_site.specs.declared.found.Found.{Found}
use Rattle.asp_site.specs.declared.found.Found.TheVariants as found
use Rattle.asp_site.specs.declared.site.Page.{Page}
use Rattle.asp_site.specs.declared.site.Site.{Site}

-- the path of a file; of a folder, which ends in a slash, that of its file of this name
abbrev pub file_path : List ℕ → List ℕ → List ℕ
file_path name path = path ++ (if has_ending (codes "/") path then name else [])

-- the page of this path
abbrev pub page_named : Site → List ℕ → Option Page
page_named site path = find (λ page. same_name path page.path) site.pages

-- the page at a path, where a folder's is its `default.asp`
abbrev pub page_at : Site → List ℕ → Option Page
page_at site path = page_named site (file_path (codes "default.asp") path)

-- the static file of this path
abbrev pub static_named : Site → List ℕ → Option SiteFile
static_named site path = find (λ file. same_name path file.path) site.statics

-- the static file at a path, where a folder's is its `default.htm`
abbrev pub static_at : Site → List ℕ → Option SiteFile
static_at site path = static_named site (file_path (codes "default.htm") path)

-- what stands there: the page; the static file, where there is no page; or nothing
abbrev pub StandsAt : Site → List ℕ → Found → Type 0
StandsAt site path (found.Page page) = page_at site path ≡ Some page.now
StandsAt site path (found.Static file) = (page_at site path ≡ None) × (static_at site path ≡ Some file.now)
StandsAt site path found.Missing = (page_at site path ≡ None) × (static_at site path ≡ None)
