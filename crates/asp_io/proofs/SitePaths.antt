-- Files under their paths, and lists of paths that may be those of a site.
use Rattle.std.proofs.Common.{◌≡◌, ◌≢◌, ℕ, ◌+◌, ◌<◌, Bool, true, false, cond}
use Rattle.std.proofs.Common.{List, [], ◌∷◌, ◌++◌, Option, None, Some, length, get_or, map}
use Rattle.std.proofs.Common.{nat_eq, option_map, take, refl, sym, ◌∙◌, ap, subst, arith, length-take}
use Rattle.std.specs.Prelude.{MatchOption}
use Rattle.std.specs.Cmp.Lexicographic.{pointwise}
use Rattle.std.specs.List.{Contains}
use Rattle.std.proofs.lemmas.List.{take_more, take-map, length-map, get_or-map, get_or-take}
use Rattle.std.proofs.lemmas.List.Elements.{All-push, Contains-append_right, Contains-get_or}
use Rattle.std.proofs.lemmas.List.Quantifiers.{all_pairs_push}
use Rattle.std.proofs.lemmas.Map.Made.{Contains-tail}
use Rattle.std.proofs.lemmas.Slice.Eq.{bytes_eq-Decides}
use Rattle.vb_value.specs.declared.site_file.SiteFile.{SiteFile}
use Rattle.asp_io.specs.Folder.{AreSitePaths, HasFile, IsRooted, bytes_of, file_at, path_of}

-- what both outcomes of a search say, from what they say of the rest
either : {X : Type 0} {P Q R S : Type 0} (found : Option X) → (P → R) → (Q → S)
    → MatchOption found P (λ _. Q) → MatchOption found R (λ _. S)
either None none some fact = none fact
either (Some x) none some fact = some fact

-- a file was found under the path exactly if one has it
abbrev Tells : List SiteFile → List ℕ → Option SiteFile → Type 0
Tells files path found = MatchOption found (¬ (HasFile files path)) (λ _. HasFile files path)

-- the search tells it
file_at_tells : (files : List SiteFile) (path : List ℕ) → Tells files path (file_at files path)
file_at_tells [] path = λ has. let none : has.0 < 0 = has.1 in omega arith
file_at_tells (file ∷ files) path =
    let same = bytes_eq-Decides path file.path in
    let first : (b : Bool) → pointwise nat_eq path file.path ≡ b
    → Tells (file ∷ files) path (cond b (Some file) (file_at files path)) =
    elim [
      | true ↦ λ is. (0, omega arith, sym (same.0 is))
      | false ↦ λ differs.
          let others : file.path ≢ path = λ is. let both : true ≡ false = sym (same.1 (sym is)) ∙ differs in cc in
          either (file_at files path)
          (λ none has. none (Contains-tail file.path (map path_of files) path others has))
          (λ has. Contains-append_right (file.path ∷ []) (map path_of files) path has)
          (file_at_tells files path)
    ] in
    first (pointwise nat_eq path file.path) refl

pub some_file : (files : List SiteFile) (path : List ℕ) (file : SiteFile) → Some file ≡ file_at files path → HasFile files path
some_file files path file is = subst (Tells files path) (sym is) (file_at_tells files path)

pub no_file : (files : List SiteFile) (path : List ℕ) → None ≡ file_at files path → ¬ (HasFile files path)
no_file files path is = subst (Tells files path) (sym is) (file_at_tells files path)

-- a file that the folder has has bytes
pub has_bytes : (files : List SiteFile) (path : List ℕ) (most : ℕ) → HasFile files path
    → None ≡ option_map (take most) (bytes_of files path) → ⊥
has_bytes files path most has none =
    let found : (file : Option SiteFile) → file ≡ file_at files path
    → None ≡ option_map (take most) (option_map (λ file. file.bytes) file) → ⊥ =
    elim [ None ↦ λ is _. no_file files path is has | Some file ↦ λ _ is. cc ] in
    found (file_at files path) refl none

-- each path of a site begins with a slash and is new
site_path_is_new : (paths : List (List ℕ)) (at : ℕ) (path : List ℕ)
    → get_or paths at path ≡ path → at < length paths
    → AreSitePaths paths → IsRooted path × ¬ (Contains (take at paths) path)
site_path_is_new paths at path here within are =
    let new : ¬ (Contains (take at paths) path) = λ has.
    let below : has.0 < at = let long = has.1 in omega (arith, length-take {A = List ℕ}) in
    let same = sym (get_or-take at paths has.0 path below) ∙ has.2 ∙ sym here in
    are.distinct has.0 at path below within same in
    (subst IsRooted here (are.rooted at path within), new)

-- the paths with a new one after them
more_site_paths : (paths : List (List ℕ)) (at : ℕ) (path : List ℕ)
    → get_or paths at path ≡ path → at < length paths → AreSitePaths (take at paths)
    → IsRooted path → ¬ (Contains (take at paths) path) → AreSitePaths (take (at + 1) paths)
more_site_paths paths at path here within are rooted new =
    let front = take at paths in
    let is : take (at + 1) paths ≡ front ++ path ∷ [] =
    take_more paths at path within ∙ ap (λ last. front ++ last ∷ []) here in
    let differ : (k : ℕ) (d : List ℕ) → k < length front → get_or front k d ≢ path =
    λ k d below same. new (subst (Contains front) same (Contains-get_or front k d below)) in
    subst AreSitePaths (sym is) record {
      rooted = All-push IsRooted front path are.rooted rooted;
      distinct = all_pairs_push (λ path other. path ≢ other) front path are.distinct differ;
    }

-- the path of a file, in the list of the paths
path_here : (files : List SiteFile) (at : ℕ) (file : SiteFile) → file ≡ get_or files at file → at < length files
    → get_or (map path_of files) at file.path ≡ file.path
path_here files at file is within = get_or-map path_of files at file file.path within ∙ ap path_of (sym is)

-- each file of a site has a new path
pub site_file_is_new : (files : List SiteFile) (at : ℕ) (file : SiteFile)
    → file ≡ get_or files at file → at < length files
    → AreSitePaths (map path_of files) → IsRooted file.path × ¬ (HasFile (take at files) file.path)
site_file_is_new files at file is within are =
    let below : at < length (map path_of files) = omega (arith, length-map files path_of) in
    let new = site_path_is_new (map path_of files) at file.path (path_here files at file is within) below are in
    (new.0, rw (← take-map) new.1)

-- the files with one of a new path after them
pub more_site_files : (files : List SiteFile) (at : ℕ) (file : SiteFile)
    → file ≡ get_or files at file → at < length files
    → AreSitePaths (map path_of (take at files)) → IsRooted file.path × ¬ (HasFile (take at files) file.path)
    → AreSitePaths (map path_of (take (at + 1) files))
more_site_files files at file is within are new =
    let below : at < length (map path_of files) = omega (arith, length-map files path_of) in
    let front = sym (take-map path_of at files) in
    let more = more_site_paths (map path_of files) at file.path (path_here files at file is within) below
    (subst AreSitePaths front are) new.0 (subst (λ paths. ¬ (Contains paths file.path)) front new.1) in
    subst AreSitePaths (take-map path_of (at + 1) files) more
