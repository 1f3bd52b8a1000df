-- A folder has one list of files that make up its site.
use Rattle.std.proofs.Common.{◌≡◌, ◌≢◌, ◌∙◌, ℕ, zero, suc, ◌<◌, List, [], ◌∷◌, length, get_or, drop, map, arith, refl}
use Rattle.std.proofs.Common.{sym, ap, subst}
use Rattle.std.proofs.lemmas.List.{get_or-map, length-map}
use Rattle.std.proofs.lemmas.List.Elements.{All-contains}
use Rattle.std.specs.List.{All, AllPairs, Contains}
use Rattle.std.specs.declared.cmp.Ordering.{Ordering}
use Rattle.std.specs.declared.cmp.Ordering.TheVariants.{Less, Greater}
use Rattle.std.proofs.lemmas.Cmp.{nat_list_cmp_total}
use Rattle.vb_value.specs.declared.site_file.SiteFile.{SiteFile}
use Rattle.vb_value.specs.Folding.{folded}
use Rattle.asp_io.specs.Folder.{AreSitePaths, path_of}
use Rattle.site_load.specs.Chosen.{AreChosen, IsBefore, IsChosen, compared}
use Rattle.site_load.specs.Files.{AreSiteFiles, IsSiteOf}

-- ---- lists in a strict order

module _ {X : Type 0} (R : X → X → Type 0) (never_both : (x y : X) → R x y → R y x → ⊥) where
  -- the first comes before each behind it
  first_before : (x : X) (xs : List X) → AllPairs R (x ∷ xs) → (y : X) → Contains xs y → R x y
  first_before x xs ordered y there =
      subst (R x) there.2 (ordered 0 (suc there.0) y (omega arith) (omega (arith, there.1)))

  -- those behind the first are in order
  rest_ordered : (x : X) (xs : List X) → AllPairs R (x ∷ xs) → AllPairs R xs
  rest_ordered x xs ordered i j d less within = ordered (suc i) (suc j) d (omega (arith, less)) (omega (arith, within))

  -- what a list holds is its first, or stands behind it
  first_or_behind : (x : X) (xs : List X) (y : X) → Contains (x ∷ xs) y → ¬ (Contains xs y) → x ≡ y
  first_or_behind x xs y (zero, within, is) none = is
  first_or_behind x xs y (suc at, within, is) none = absurd (none (at, omega (arith, within), is))

  -- what stands behind the first is held
  behind_first : (x : X) (xs : List X) (y : X) → Contains xs y → Contains (x ∷ xs) y
  behind_first x xs y there = (suc there.0, omega (arith, there.1), there.2)

  -- two lists in order that hold the same have the same first
  same_first : (x : X) (xs : List X) (y : X) (ys : List X) → AllPairs R (x ∷ xs) → AllPairs R (y ∷ ys)
      → Contains (y ∷ ys) x → Contains (x ∷ xs) y → x ≡ y
  same_first x xs y ys one other (zero, within, is) there = sym is
  same_first x xs y ys one other (suc at, within, is) (zero, inside, same) = same
  same_first x xs y ys one other (suc at, within, is) (suc place, inside, same) =
      absurd (never_both x y (first_before x xs one y (place, omega (arith, inside), same))
      (first_before y ys other x (at, omega (arith, within), is)))

  -- What stands behind the first of one is held by the other, and stands behind its first.
  behind_there : (x : X) (xs : List X) (y : X) (ys : List X) → AllPairs R (x ∷ xs) → x ≡ y → (z : X) → Contains xs z
      → Contains (y ∷ ys) z → Contains ys z
  behind_there x xs y ys ordered same z there (zero, within, is) =
      let before : R x z = first_before x xs ordered z there in
      let itself : R z z = subst (λ (w : X). R w z) (same ∙ is) before in
      absurd (never_both z z itself itself)
  behind_there x xs y ys ordered same z there (suc at, within, is) = (at, omega (arith, within), is)

  behind_both : (x : X) (xs : List X) (y : X) (ys : List X) → AllPairs R (x ∷ xs) → x ≡ y
      → ((z : X) → Contains (x ∷ xs) z → Contains (y ∷ ys) z) → (z : X) → Contains xs z → Contains ys z
  behind_both x xs y ys ordered same held z there =
      behind_there x xs y ys ordered same z there (held z (behind_first x xs z there))

  pub same_lists : (xs ys : List X) → AllPairs R xs → AllPairs R ys → ((z : X) → Contains xs z → Contains ys z)
      → ((z : X) → Contains ys z → Contains xs z) → xs ≡ ys
  same_lists [] [] one other to back = refl
  same_lists [] (y ∷ ys) one other to back = absurd (omega (arith, (back y (0, omega arith, refl)).1))
  same_lists (x ∷ xs) [] one other to back = absurd (omega (arith, (to x (0, omega arith, refl)).1))
  same_lists (x ∷ xs) (y ∷ ys) one other to back =
      let first : x ≡ y = same_first x xs y ys one other (to x (0, omega arith, refl)) (back y (0, omega arith, refl)) in
      let rest : xs ≡ ys = same_lists xs ys (rest_ordered x xs one) (rest_ordered y ys other)
      (behind_both x xs y ys one first to) (behind_both y ys x xs other (sym first) back) in
      cc

-- ---- the files of a site

-- of two paths only one comes before the other
never_both_before : (path other : List ℕ) → IsBefore (folded path) (folded other) → IsBefore (folded other) (folded path)
    → ⊥
never_both_before path other before behind =
    let turned : compared (folded other) (folded path) ≡ Greater =
    nat_list_cmp_total.antisymm (folded other) (folded path) ∙ rw before refl in
    absurd (cc)

-- names have one list of chosen paths
pub same_paths : (names paths others : List (List ℕ)) → AreChosen names paths → AreChosen names others → paths ≡ others
same_paths names paths others one other = same_lists (λ path next. IsBefore (folded path) (folded next)) never_both_before
    paths others one.ordered other.ordered
    (λ path there. other.all path (All-contains (IsChosen names) paths path one.each there))
    (λ path there. one.all path (All-contains (IsChosen names) others path other.each there))

-- one file of a folder has a path
pub same_file : (all : List SiteFile) (file other : SiteFile) → AllPairs (λ path next. path ≢ next) (map path_of all)
    → Contains all file → Contains all other → file.path ≡ other.path → file ≡ other
same_file [] file other apart there also same = absurd (omega (arith, there.1))
same_file (first ∷ rest) file other apart (zero, within, is) (zero, inside, too) same = sym is ∙ too
same_file (first ∷ rest) file other apart (zero, within, is) (suc at, inside, too) same =
    absurd (apart 0 (suc at) other.path (omega arith) (rw (length-map rest path_of) (omega (arith, inside)))
    (ap path_of is ∙ same ∙ sym (get_or-map path_of rest at other other.path (omega (arith, inside)) ∙ ap path_of too)))
same_file (first ∷ rest) file other apart (suc at, within, is) (zero, inside, too) same =
    absurd (apart 0 (suc at) file.path (omega arith) (rw (length-map rest path_of) (omega (arith, within)))
    (ap path_of too ∙ sym same ∙ sym (get_or-map path_of rest at file file.path (omega (arith, within)) ∙ ap path_of is)))
same_file (first ∷ rest) file other apart (suc at, within, is) (suc place, inside, too) same =
    same_file rest file other (λ i j d less fits. apart (suc i) (suc j) d (omega (arith, less)) (omega (arith, fits)))
    (at, omega (arith, within), is) (place, omega (arith, inside), too) same

-- files of a folder at one list of paths
same_at_paths : (all files others : List SiteFile) → AllPairs (λ path next. path ≢ next) (map path_of all)
    → All (Contains all) files → All (Contains all) others → map path_of files ≡ map path_of others → files ≡ others
same_at_paths all [] [] apart there also same = refl
same_at_paths all [] (other ∷ others) apart there also same = absurd (cc)
same_at_paths all (file ∷ files) [] apart there also same = absurd (cc)
same_at_paths all (file ∷ files) (other ∷ others) apart there also same =
    let first : file ≡ other = same_file all file other apart (there 0 file (omega arith)) (also 0 other (omega arith))
    (ap (λ (paths : List (List ℕ)). get_or paths 0 []) same) in
    let rest : files ≡ others = same_at_paths all files others apart (λ k d within. there (suc k) d (omega (arith, within)))
    (λ k d within. also (suc k) d (omega (arith, within))) (ap (drop 1) same) in
    cc

-- a folder has one list of files that make up its site
pub same_files : (all files others : List SiteFile) → AreSitePaths (map path_of all) → IsSiteOf all files
    → IsSiteOf all others → files ≡ others
same_files all files others paths one other = same_at_paths all files others paths.distinct one.of_site.there
    other.of_site.there (same_paths (map path_of all) (map path_of files) (map path_of others) one.of_site.chosen
    other.of_site.chosen)
