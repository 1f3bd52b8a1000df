-- A folder that is a site has no fault.
use Rattle.std.proofs.Common.{◌≡◌, ◌≢◌, ◌∙◌, inl, inr, ℕ, suc, ◌+◌, ◌≤◌, Bool, true, false, List, [], ◌∷◌, ◌++◌, Result}
use Rattle.std.proofs.Common.{Ok, Err, length, get_or, drop, map, arith, refl, sym, ap, subst}
use Rattle.std.proofs.lemmas.List.{get_or_append_left, length-append}
use Rattle.std.proofs.lemmas.List.Sums.{sum_by-append}
use Rattle.std.specs.List.{All, AllPairs, Contains, sum_by}
use Rattle.vb_value.specs.declared.site_file.SiteFault.{SiteFault}
use Rattle.vb_value.specs.declared.site_file.SiteFile.{SiteFile}
use Rattle.asp_io.specs.Folder.{AreSitePaths, path_of}
use Rattle.page_read.specs.Expansion.{ComesOfPage, Outcome}
use Rattle.page_read.specs.declared.located.Located.{Located}
use Rattle.asp_site.specs.declared.site.Page.{Page}
use Rattle.asp_site.specs.declared.site.Site.{Site}
use Rattle.page_build.specs.Building.{HasPageFault, IsPageOf}
use Rattle.site_load.specs.Accepted.{AddsFile, AreRuns, HasFault, IsAccepted, IsBuilt, IsFileFault, IsFirstFault}
use Rattle.site_load.specs.Accepted.{IsFolderFault, IsSite, role_of}
use Rattle.site_load.specs.Files.{AreSmall, IsSiteOf, IsTooLargeAt, most_of_file, size_of}
use Rattle.site_load.specs.declared.building.Role.{Role}
use Rattle.site_load.specs.declared.building.Role.TheVariants as role
use Rattle.site_load.specs.declared.building.RunPages.{RunPages}
use Rattle.site_load.proofs.SameFiles.{same_file, same_files, same_paths}

-- ---- the laws of the steps

abbrev pub OneOutcome : Type 0
OneOutcome = (files : List SiteFile) (path : List ℕ) (one other : Outcome) → ComesOfPage files path one
    → ComesOfPage files path other → one ≡ other

abbrev pub PageOrFault : Type 0
PageOrFault = (path : List ℕ) (parts : List Located) (global : Bool) (page : Page) (fault : SiteFault)
    → IsPageOf path parts global page → HasPageFault path parts global fault → ⊥

module _ (one_outcome : OneOutcome) (page_or_fault : PageOrFault) where
  -- ---- one page

  -- a page that is built has no fault
  built_faultless : (files : List SiteFile) (path : List ℕ) (global : Bool) (page : Page) (fault : SiteFault)
      → IsBuilt files path global page → HasFault files path global fault → ⊥
  unfolding IsBuilt HasFault
  built_faultless files path global page fault (parts, expands, is) (inl expanding) =
      let same : Ok parts ≡ Err fault = one_outcome files path (Ok parts) (Err fault) expands expanding in
      absurd (cc)
  built_faultless files path global page fault (parts, expands, is) (inr (others, also, faulty)) =
      let same : Ok parts ≡ Ok others = one_outcome files path (Ok parts) (Ok others) expands also in
      let parts_same : others ≡ parts = cc in
      page_or_fault path parts global page fault is
      (subst (λ (all : List Located). HasPageFault path all global fault) parts_same faulty)

  -- a file that adds its page has no fault
  adds_faultless : (files : List SiteFile) (file : SiteFile) (is : Role) (later runs : RunPages) (fault : SiteFault)
      → AddsFile files file is later runs → IsFileFault files file is fault → ⊥
  adds_faultless files file role.Page later runs fault adds faulty =
      built_faultless files file.path false adds.0 fault adds.1 faulty
  adds_faultless files file role.Events later runs fault adds faulty =
      built_faultless files file.path true adds.0 fault adds.1 faulty
  adds_faultless files file role.Other later runs fault adds faulty = faulty

  -- none of the files that have come to pages has a fault
  pub runs_faultless : (files before : List SiteFile) (file : SiteFile) (after : List SiteFile) (runs : RunPages)
      (fault : SiteFault) → AreRuns files (before ++ file ∷ after) runs
      → IsFileFault files file (role_of file.path) fault → ⊥
  runs_faultless files [] file after runs fault is faulty =
      adds_faultless files file (role_of file.path) is.0 runs fault is.2 faulty
  runs_faultless files (first ∷ before) file after runs fault is faulty =
      runs_faultless files before file after is.0 fault is.1 faulty

  -- files that are a site have no fault
  site_faultless : (files : List SiteFile) (site : Site) (fault : SiteFault) → IsSite files site
      → IsFirstFault files fault → ⊥
  site_faultless files site fault is first = runs_faultless files first.before first.file first.after
      (record { pages = site.pages; events = site.events }) fault
      (subst (λ (all : List SiteFile). AreRuns files all (record { pages = site.pages; events = site.events }))
      first.cut is.runs) first.at_file

  -- ---- sizes

  -- the files of a folder that stand at the first of some paths are the first of the files at those
  front_files : (all files front : List SiteFile) (more : List (List ℕ))
      → AllPairs (λ path next. path ≢ next) (map path_of all) → All (Contains all) files → All (Contains all) front
      → map path_of files ≡ map path_of front ++ more → (back : List SiteFile) × (files ≡ front ++ back)
  front_files all files [] more apart there also same = (files, refl)
  front_files all [] (other ∷ front) more apart there also same = absurd (cc)
  front_files all (file ∷ files) (other ∷ front) more apart there also same =
      let first : file ≡ other = same_file all file other apart (there 0 file (omega arith)) (also 0 other (omega arith))
      (ap (λ (paths : List (List ℕ)). get_or paths 0 []) same) in
      let rest = front_files all files front more apart (λ k d within. there (suc k) d (omega (arith, within)))
      (λ k d within. also (suc k) d (omega (arith, within))) (ap (drop 1) same) in
      (rest.0, cc)

  -- the first of small files are small
  pub front_small : (front back : List SiteFile) → AreSmall (front ++ back) → AreSmall front
  front_small front back small = record {
    each = λ k d within. subst (λ (file : SiteFile). size_of file ≤ most_of_file) (get_or_append_left front back d k within)
        (small.each k d (omega (arith, within, length-append front back)));
    few = omega (arith, small.few, length-append front back);
    light = omega (arith, small.light, sum_by-append size_of front back);
  }

  -- files that are small have none by which they are too large
  pub small_enough : (all files : List SiteFile) (path : List ℕ) → AreSitePaths (map path_of all) → IsSiteOf all files
      → IsTooLargeAt all path → ⊥
  small_enough all files path paths of_site large =
      let front = large.before ++ large.file ∷ [] in
      let same : map path_of files ≡ map path_of front ++ large.begins.more =
      same_paths (map path_of all) (map path_of files) large.begins.paths of_site.of_site.chosen large.begins.chosen
      ∙ large.begins.cut in
      let cut = front_files all files front large.begins.more paths.distinct of_site.of_site.there large.begins.there same in
      large.large (front_small front cut.0 (subst AreSmall cut.1 of_site.small))

  -- ---- folders

  pub site_or_fault_lem : (all : List SiteFile) (site : Site) (fault : SiteFault) → AreSitePaths (map path_of all)
      → IsAccepted all site → IsFolderFault all fault → ⊥
  site_or_fault_lem all site fault paths is (inl large) =
      small_enough all is.files fault.path paths is.of_site large.at_path
  site_or_fault_lem all site fault paths is (inr (files, of_site, first)) =
      let same : files ≡ is.files = same_files all files is.files paths of_site is.of_site in
      site_faultless is.files site fault is.is_site
      (subst (λ (these : List SiteFile). IsFirstFault these fault) same first)
