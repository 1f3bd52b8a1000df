-- A folder has one first fault.
use Rattle.std.proofs.Common.{◌≡◌, ◌≢◌, ◌∙◌, ◌⊎◌, inl, inr, ℕ, suc, List, [], ◌∷◌, ◌++◌, Ok, Err, get_or, drop, map, arith}
use Rattle.std.proofs.Common.{refl, sym, ap, subst, append_assoc, Bool, true, false}
use Rattle.std.specs.List.{All, AllPairs, Contains}
use Rattle.vb_value.specs.declared.site_file.SiteFault.{SiteFault}
use Rattle.vb_value.specs.declared.site_file.SiteFile.{SiteFile}
use Rattle.asp_io.specs.Folder.{AreSitePaths, path_of}
use Rattle.page_read.specs.declared.located.Located.{Located}
use Rattle.page_build.specs.Building.{HasPageFault}
use Rattle.site_load.specs.Accepted.{AreRuns, HasFault, IsFileFault, IsFirstFault, IsFolderFault, role_of}
use Rattle.site_load.specs.Files.{AreSmall, IsTooLargeAt}
use Rattle.site_load.specs.Reading.{IsTooLargeFault}
use Rattle.site_load.specs.declared.building.Role.{Role}
use Rattle.site_load.specs.declared.building.Role.TheVariants as role
use Rattle.site_load.specs.declared.building.RunPages.{RunPages}
use Rattle.site_load.proofs.OneSite as sites
use Rattle.site_load.proofs.OneSite.{OneOutcome, PageOrFault}
use Rattle.site_load.proofs.SameFiles.{same_file, same_files, same_paths}

-- a page has one fault: the law of page_build
abbrev pub OnePageFault : Type 0
OnePageFault = (path : List ℕ) (parts : List Located) (global : Bool) (fault other : SiteFault)
    → HasPageFault path parts global fault → HasPageFault path parts global other → fault ≡ other

-- ---- two cuts of one list

-- the first stands where the second does, before it, or behind it
data Order {X : Type 0} (before other : List X) (x y : X) : Type 0 where
  same_place : before ≡ other → x ≡ y → Order before other x y
  earlier : (between : List X) → other ≡ before ++ x ∷ between → Order before other x y
  later : (between : List X) → before ≡ other ++ y ∷ between → Order before other x y

one_more : {X : Type 0} (z w : X) (before other : List X) (x y : X) → z ≡ w → Order before other x y
    → Order (z ∷ before) (w ∷ other) x y
one_more z w before other x y first (same_place lists is) = same_place (cc) is
one_more z w before other x y first (earlier between is) = earlier between (cc)
one_more z w before other x y first (later between is) = later between (cc)

in_order : {X : Type 0} (before other : List X) (x y : X) (after rest : List X)
    → before ++ x ∷ after ≡ other ++ y ∷ rest → Order before other x y
in_order [] [] x y after rest is = same_place refl (cc)
in_order [] (z ∷ other) x y after rest is = earlier other (cc)
in_order (z ∷ before) [] x y after rest is = later before (cc)
in_order (z ∷ before) (w ∷ other) x y after rest is =
    one_more z w before other x y (cc) (in_order before other x y after rest (cc))

module _ (one_outcome : OneOutcome) (page_or_fault : PageOrFault) (one_page_fault : OnePageFault) where
  -- ---- one file

  one_fault : (files : List SiteFile) (path : List ℕ) (global : Bool) (fault other : SiteFault)
      → HasFault files path global fault → HasFault files path global other → fault ≡ other
  unfolding HasFault
  one_fault files path global fault other (inl one) (inl also) =
      let same : Err fault ≡ Err other = one_outcome files path (Err fault) (Err other) one also in
      cc
  one_fault files path global fault other (inl one) (inr (parts, expands, faulty)) =
      let same : Err fault ≡ Ok parts = one_outcome files path (Err fault) (Ok parts) one expands in
      absurd (cc)
  one_fault files path global fault other (inr (parts, expands, faulty)) (inl also) =
      let same : Ok parts ≡ Err other = one_outcome files path (Ok parts) (Err other) expands also in
      absurd (cc)
  one_fault files path global fault other (inr (parts, expands, faulty)) (inr (others, also, too)) =
      let same : Ok others ≡ Ok parts = one_outcome files path (Ok others) (Ok parts) also expands in
      let parts_same : others ≡ parts = cc in
      one_page_fault path parts global fault other faulty
      (subst (λ (all : List Located). HasPageFault path all global other) parts_same too)

  one_file_fault : (files : List SiteFile) (file : SiteFile) (is : Role) (fault other : SiteFault)
      → IsFileFault files file is fault → IsFileFault files file is other → fault ≡ other
  one_file_fault files file role.Page fault other one also = one_fault files file.path false fault other one also
  one_file_fault files file role.Events fault other one also = one_fault files file.path true fault other one also
  one_file_fault files file role.Other fault other one also = absurd one

  -- ---- the files of a site

  -- of files that come to pages none has a fault
  no_earlier : (files before between : List SiteFile) (file : SiteFile) (fault : SiteFault) (other : List SiteFile)
      (runs : RunPages) → other ≡ before ++ file ∷ between → AreRuns files other runs
      → IsFileFault files file (role_of file.path) fault → ⊥
  no_earlier files before between file fault other runs is faultless faulty =
      sites.runs_faultless one_outcome page_or_fault files before file between runs fault
      (subst (λ (some : List SiteFile). AreRuns files some runs) is faultless) faulty

  one_first_fault : (files : List SiteFile) (fault other : SiteFault) → IsFirstFault files fault
      → IsFirstFault files other → fault ≡ other
  one_first_fault files fault other one also =
      elim (in_order one.before also.before one.file also.file one.after also.after (sym one.cut ∙ also.cut)) [
        | same_place lists is ↦ one_file_fault files also.file (role_of also.file.path) fault other
            (subst (λ (file : SiteFile). IsFileFault files file (role_of file.path) fault) is one.at_file) also.at_file
        | earlier between is ↦ absurd (no_earlier files one.before between one.file fault also.before also.runs is
            also.faultless one.at_file)
        | later between is ↦ absurd (no_earlier files also.before between also.file other one.before one.runs is
            one.faultless also.at_file)
      ]

  -- ---- sizes

  -- of two lists of files of a folder at the first of some paths, one is the first of the other
  fronts : (all front other : List SiteFile) (more rest : List (List ℕ))
      → AllPairs (λ path next. path ≢ next) (map path_of all) → All (Contains all) front → All (Contains all) other
      → map path_of front ++ more ≡ map path_of other ++ rest
      → ((back : List SiteFile) × (front ≡ other ++ back)) ⊎ ((back : List SiteFile) × (other ≡ front ++ back))
  fronts all [] other more rest apart there also same = inr (other, refl)
  fronts all (file ∷ front) [] more rest apart there also same = inl (file ∷ front, refl)
  fronts all (file ∷ front) (found ∷ other) more rest apart there also same =
      let first : file ≡ found = same_file all file found apart (there 0 file (omega arith)) (also 0 found (omega arith))
      (ap (λ (paths : List (List ℕ)). get_or paths 0 []) same) in
      elim (fronts all front other more rest apart (λ k d within. there (suc k) d (omega (arith, within)))
      (λ k d within. also (suc k) d (omega (arith, within))) (ap (drop 1) same)) [
        | inl (back, is) ↦ inl (back, cc)
        | inr (back, is) ↦ inr (back, cc)
      ]

  -- small files have none among them by which they are too large
  not_within : (before between other : List SiteFile) (file : SiteFile) → other ≡ before ++ file ∷ between
      → AreSmall other → AreSmall (before ++ file ∷ [])
  not_within before between other file is small = sites.front_small one_outcome page_or_fault (before ++ file ∷ [])
      between (subst AreSmall (is ∙ sym (append_assoc before (file ∷ []) between)) small)

  one_place : (all : List SiteFile) (path also_path : List ℕ) (one : IsTooLargeAt all path)
      (also : IsTooLargeAt all also_path) (after rest : List SiteFile)
      → one.before ++ one.file ∷ after ≡ also.before ++ also.file ∷ rest → path ≡ also_path
  one_place all path also_path one also after rest is =
      elim (in_order one.before also.before one.file also.file after rest is) [
        | same_place lists file ↦ one.told ∙ ap path_of file ∙ sym also.told
        | earlier between is ↦ absurd (one.large (not_within one.before between also.before one.file is also.small))
        | later between is ↦ absurd (also.large (not_within also.before between one.before also.file is one.small))
      ]

  one_too_large : (all : List SiteFile) (path other : List ℕ) → AreSitePaths (map path_of all)
      → IsTooLargeAt all path → IsTooLargeAt all other → path ≡ other
  one_too_large all path other paths one also =
      let same : map path_of (one.before ++ one.file ∷ []) ++ one.begins.more
      ≡ map path_of (also.before ++ also.file ∷ []) ++ also.begins.more =
      sym one.begins.cut ∙ same_paths (map path_of all) one.begins.paths also.begins.paths one.begins.chosen
      also.begins.chosen ∙ also.begins.cut in
      elim (fronts all (one.before ++ one.file ∷ []) (also.before ++ also.file ∷ []) one.begins.more also.begins.more
      paths.distinct one.begins.there also.begins.there same) [
        | inl (back, is) ↦ one_place all path other one also [] back
            (is ∙ append_assoc also.before (also.file ∷ []) back)
        | inr (back, is) ↦ one_place all path other one also back []
            (sym (is ∙ append_assoc one.before (one.file ∷ []) back))
      ]

  large_fault : (all : List SiteFile) (fault other : SiteFault) → AreSitePaths (map path_of all)
      → IsTooLargeFault all fault → IsTooLargeFault all other → fault ≡ other
  large_fault all fault other paths one also =
      let path : fault.path ≡ other.path =
      one_too_large all fault.path other.path paths one.at_path also.at_path in
      let line : fault.line ≡ other.line = one.line ∙ sym also.line in
      let kind : fault.kind ≡ other.kind = one.kind ∙ sym also.kind in
      λ i. record { path = path i; line = line i; kind = kind i }

  -- ---- folders

  pub one_folder_fault_lem : (all : List SiteFile) (fault other : SiteFault) → AreSitePaths (map path_of all)
      → IsFolderFault all fault → IsFolderFault all other → fault ≡ other
  one_folder_fault_lem all fault other paths (inl one) (inl also) = large_fault all fault other paths one also
  one_folder_fault_lem all fault other paths (inl one) (inr (files, of_site, first)) = absurd
      (sites.small_enough one_outcome page_or_fault all files fault.path paths of_site one.at_path)
  one_folder_fault_lem all fault other paths (inr (files, of_site, first)) (inl also) = absurd
      (sites.small_enough one_outcome page_or_fault all files other.path paths of_site also.at_path)
  one_folder_fault_lem all fault other paths (inr (files, of_site, first)) (inr (others, also, too)) =
      let same : others ≡ files = same_files all others files paths also of_site in
      one_first_fault files fault other first
      (subst (λ (these : List SiteFile). IsFirstFault these other) same too)
