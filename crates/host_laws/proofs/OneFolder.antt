-- A folder has one list of files that make up its site.
use Rattle.std.proofs.Common.{◌≡◌, ◌≢◌, ◌∙◌, ◌⊎◌, inl, inr, ℕ, zero, suc, ◌<◌, List, [], ◌∷◌, length, get_or}
use Rattle.std.proofs.Common.{map, arith, refl, sym, ap, subst}
use Rattle.std.proofs.lemmas.Bool.{cases_lt}
use Rattle.std.proofs.lemmas.Cmp.{nat_list_cmp_total}
use Rattle.std.proofs.lemmas.List.{get_or-map, get_or_default, length-map}
use Rattle.std.proofs.lemmas.List.Elements.{All-contains}
use Rattle.std.specs.List.{AllPairs, Contains}
use Rattle.std.specs.declared.cmp.Ordering.TheVariants.{Greater}
use Rattle.vb_value.specs.declared.site_file.SiteFile.{SiteFile}
use Rattle.vb_value.specs.Folding.{folded}
use Rattle.asp_io.specs.Folder.{AreSitePaths, path_of}
use Rattle.site_load.specs.Chosen.{IsBefore, IsChosen, compared}
use Rattle.site_load.specs.Files.{AreSiteFiles, IsSiteOf}

-- ---- lists in a strict order

-- what a list holds is its first, or stands behind it
first_or_behind : {X : Type 0} (x : X) (xs : List X) (y : X) → Contains (x ∷ xs) y → (x ≡ y) ⊎ Contains xs y
first_or_behind x xs y (zero, within, is) = inl is
first_or_behind x xs y (suc at, within, is) = inr (at, omega (arith, within), is)

module _ {X : Type 0} (R : X → X → Type 0) (never_both : (x y : X) → R x y → R y x → ⊥) where
  behind : (x : X) (xs : List X) (y : X) → AllPairs R (x ∷ xs) → Contains xs y → R x y
  behind x xs y ordered (at, within, is) =
      subst (R x) is (ordered 0 (suc at) y (omega arith) (omega (arith, within)))

  without_first : (x : X) (xs : List X) → AllPairs R (x ∷ xs) → AllPairs R xs
  without_first x xs ordered i j d less within =
      ordered (suc i) (suc j) d (omega (arith, less)) (omega (arith, within))

  -- two lists that hold the firsts of each other have one first
  one_first : (x : X) (xs : List X) (y : X) (ys : List X) → AllPairs R (x ∷ xs) → AllPairs R (y ∷ ys)
      → Contains (y ∷ ys) x → Contains (x ∷ xs) y → x ≡ y
  one_first x xs y ys one other to back = elim (first_or_behind y ys x to) [
    | inl same ↦ sym same
    | inr there ↦ elim (first_or_behind x xs y back) [
      | inl same ↦ same
      | inr here ↦ absurd (never_both x y (behind x xs y one here) (behind y ys x other there))
    ]
  ]

  -- what stands behind the one first stands behind the other
  rest_held : (x : X) (xs : List X) (y : X) (ys : List X) (z : X) → AllPairs R (x ∷ xs) → x ≡ y → Contains xs z
      → Contains (y ∷ ys) z → Contains ys z
  rest_held x xs y ys z ordered same there held = elim (first_or_behind y ys z held) [
    | inl is ↦ absurd (let itself : R z z = subst (λ w. R w z) (same ∙ is) (behind x xs z ordered there) in
        never_both z z itself itself)
    | inr later ↦ later
  ]

  -- lists in order that hold the same are one
  one_list : (xs ys : List X) → AllPairs R xs → AllPairs R ys → ((z : X) → Contains xs z → Contains ys z)
      → ((z : X) → Contains ys z → Contains xs z) → xs ≡ ys
  one_list [] [] one other to back = refl
  one_list [] (y ∷ ys) one other to back = absurd (omega (arith, (back y (0, omega arith, refl)).1))
  one_list (x ∷ xs) [] one other to back = absurd (omega (arith, (to x (0, omega arith, refl)).1))
  one_list (x ∷ xs) (y ∷ ys) one other to back =
      let first = one_first x xs y ys one other (to x (0, omega arith, refl)) (back y (0, omega arith, refl)) in
      let rest = one_list xs ys (without_first x xs one) (without_first y ys other)
      (λ z there. rest_held x xs y ys z one first there (to z (suc there.0, omega (arith, there.1), there.2)))
      (λ z there. rest_held y ys x xs z other (sym first) there
      (back z (suc there.0, omega (arith, there.1), there.2))) in
      λ i. first i ∷ rest i

-- ---- files

-- where a file stands, its path stands
at_path : (files : List SiteFile) (file : SiteFile) (there : Contains files file) (other : List ℕ)
    → get_or (map path_of files) there.0 other ≡ file.path
at_path files file there other = get_or-map path_of files there.0 file other there.1 ∙ ap path_of there.2

path_there : (files : List SiteFile) (file : SiteFile) → Contains files file → Contains (map path_of files) file.path
path_there files file there =
    (there.0, rw (length-map files path_of) there.1, at_path files file there file.path)

-- one file of a folder has a path
one_file : (all : List SiteFile) (file other : SiteFile) → AllPairs (λ path next. path ≢ next) (map path_of all)
    → Contains all file → Contains all other → file.path ≡ other.path → file ≡ other
one_file all file other apart one also same = elim (cases_lt one.0 also.0) [
  | inl below ↦ absurd (apart one.0 also.0 file.path below (rw (length-map all path_of) also.1)
      (at_path all file one file.path ∙ same ∙ sym (at_path all other also file.path)))
  | inr above ↦ elim (cases_lt also.0 one.0) [
    | inl below ↦ absurd (apart also.0 one.0 file.path below (rw (length-map all path_of) one.1)
        (at_path all other also file.path ∙ sym same ∙ sym (at_path all file one file.path)))
    | inr under ↦ (let place : one.0 ≡ also.0 = omega (arith, above, under) in
        sym one.2 ∙ get_or_default all one.0 file other one.1 ∙ ap (λ at. get_or all at other) place ∙ also.2)
  ]
]

-- the file comes before the other, by their folded paths
abbrev ComesBefore : SiteFile → SiteFile → Type 0
ComesBefore file other = IsBefore (folded file.path) (folded other.path)

not_both : (file other : SiteFile) → ComesBefore file other → ComesBefore other file → ⊥
not_both file other before behind =
    let turned : compared (folded other.path) (folded file.path) ≡ Greater =
    nat_list_cmp_total.antisymm (folded other.path) (folded file.path) ∙ rw before refl in
    absurd (cc)

files_ordered : (all files : List SiteFile) → AreSiteFiles all files → AllPairs ComesBefore files
files_ordered all files are i j file less within =
    let path_is = λ (at : ℕ) (inside : at < length files). get_or-map path_of files at file file.path inside in
    let first = path_is i (omega (arith, less, within)) in
    subst (λ path. IsBefore (folded (path_of (get_or files i file))) (folded path)) (path_is j within)
    (subst (λ path. IsBefore (folded path) (folded (get_or (map path_of files) j file.path))) first
    (are.chosen.ordered i j file.path less (rw (length-map files path_of) within)))

-- what one list of them holds, the other does
also_held : (all files others : List SiteFile) → AreSitePaths (map path_of all) → AreSiteFiles all files
    → AreSiteFiles all others → (file : SiteFile) → Contains files file → Contains others file
also_held all files others paths one other file there =
    let held = other.chosen.all file.path (All-contains (IsChosen (map path_of all)) (map path_of files) file.path
    one.chosen.each (path_there files file there)) in
    let within : held.0 < length others = rw (sym (length-map others path_of)) held.1 in
    let found = get_or others held.0 file in
    let stands : Contains others found = (held.0, within, get_or_default others held.0 found file within) in
    let path : found.path ≡ file.path = sym (get_or-map path_of others held.0 file file.path within) ∙ held.2 in
    subst (Contains others) (one_file all found file paths.distinct
    (All-contains (Contains all) others found other.there stands)
    (All-contains (Contains all) files file one.there there) path) stands

-- a folder has one list of files that make up its site
pub one_folder : (all files others : List SiteFile) → AreSitePaths (map path_of all) → IsSiteOf all files
    → IsSiteOf all others → files ≡ others
one_folder all files others paths one other = one_list ComesBefore not_both files others
    (files_ordered all files one.of_site) (files_ordered all others other.of_site)
    (also_held all files others paths one.of_site other.of_site)
    (also_held all others files paths other.of_site one.of_site)
