-- Normal paths are normal, and stay.
use Rattle.std.proofs.Common.{◌≡◌, ℕ, ◌<◌, List, [], ◌∷◌, ◌++◌, length, take, refl, sym, ap, subst, ◌∙◌, arith, All}
use Rattle.std.proofs.Common.{true, false, cond, Some, None, Option, Ok, Err, append_assoc, append-nil}
use Rattle.std.proofs.Common.{length-append, Bool, Result}
use Rattle.std.specs.Prelude.{◌==◌, ◌||◌}
use Rattle.std.specs.List.{list_any, onto_first}
use Rattle.std.specs.Option.{option_and_then}
use Rattle.std.proofs.lemmas.List.Elements.{All-nil, All-cons, All-append, All-head, All-tail, All-take}
use Rattle.std.proofs.lemmas.List.Splits.{slice_split-cons_yes, slice_split_at, slice_split_none}
use Rattle.percent_encoding.specs.Percent.{percent_decode}
use Rattle.std.specs.Str.{chars, is_utf8}
use Rattle.asp_text.specs.declared.path.PathStop.{PathStop}
use Rattle.asp_text.specs.declared.path.PathStop.TheVariants.{BadEscape}
use Rattle.asp_text.specs.Path.{Place, segments, is_here, is_parent, above, step, walk, root, way, path_of, told}
use Rattle.asp_text.specs.Path.{resolved, normal_text, normal_bytes, is_written, is_odd, normal_path_of}
use Rattle.asp_text.specs.Laws.{IsName, IsNormal}
use Rattle.asp_text.proofs.Places.{by_cases}

abbrev is_slash : ℕ → Bool
is_slash c = c == 47

-- no slash is in the segment
abbrev IsSegment : List ℕ → Type 0
IsSegment segment = list_any is_slash segment ≡ false

-- ---- what a walk keeps

-- the place of a walk: its names are names, and a file has one
record IsPlace (place : Place) : Type 0 where
  each : All IsName place.names
  some : place.folder ≡ false → 0 < length place.names

segments_onto : (c : ℕ) (l : List (List ℕ)) → is_slash c ≡ false → All IsSegment l → All IsSegment (onto_first c l)
segments_onto c [] other all = All-cons IsSegment (c ∷ []) [] (ap (λ t. t || false) other) (All-nil IsSegment)
segments_onto c (s ∷ l) other all =
    All-cons IsSegment (c ∷ s) l (ap (λ t. t || list_any is_slash s) other ∙ All-head IsSegment s l all)
    (All-tail IsSegment s l all)

are_segments : (path : List ℕ) → All IsSegment (segments path)
are_segments [] = All-cons IsSegment [] [] refl (All-nil IsSegment)
are_segments (c ∷ path) =
    by_cases (λ t. is_slash c ≡ t → All IsSegment (cond t ([] ∷ segments path) (onto_first c (segments path))))
    (is_slash c)
    (λ _ _. All-cons IsSegment [] (segments path) refl (are_segments path))
    (λ _ e. segments_onto c (segments path) e (are_segments path)) refl

folder_place : (names : List (List ℕ)) → All IsName names → IsPlace (record { names = names; folder = true })
folder_place names all = record { each = all; some = λ e. absurd cc }

step_place : (segment : List ℕ) (names : List (List ℕ)) (next : Place) → IsSegment segment → All IsName names
    → step segment names ≡ Some next → IsPlace next
step_place segment names next whole all e =
    by_cases (λ t. is_here segment ≡ t → cond t (Some (record { names = names; folder = true }))
    (cond (is_parent segment) (above names) (Some (record { names = names ++ segment ∷ []; folder = false })))
    ≡ Some next → IsPlace next)
    (is_here segment)
    (λ _ _ f. subst IsPlace (let same : record { names = names; folder = true } ≡ next = cc in same)
    (folder_place names all))
    (λ _ here. by_cases (λ t. is_parent segment ≡ t
    → cond t (above names) (Some (record { names = names ++ segment ∷ []; folder = false })) ≡ Some next
    → IsPlace next)
    (is_parent segment) (λ _ _ f. up names all f)
    (λ _ parent f. subst IsPlace
    (let same : record { names = names ++ segment ∷ []; folder = false } ≡ next = cc in same)
    (record {
      each = All-append IsName names (segment ∷ []) all
          (All-cons IsName segment [] (record { whole = whole; not_here = here; not_parent = parent })
          (All-nil IsName));
      some = λ _. omega (arith, length-append names (segment ∷ []));
    })) refl) refl e
  where
    up : (ns : List (List ℕ)) → All IsName ns → above ns ≡ Some next → IsPlace next
    up [] a f = absurd cc
    up (n ∷ ns) a f =
        subst IsPlace (let same : record { names = take (length ns) (n ∷ ns); folder = true } ≡ next = cc in same)
        (folder_place (take (length ns) (n ∷ ns)) (All-take IsName (length ns) (n ∷ ns) a))

walk_place : (path : List (List ℕ)) (place last : Place) → All IsSegment path → IsPlace place
    → walk path place ≡ Some last → IsPlace last
walk_place [] place last whole is e = subst IsPlace (let same : place ≡ last = cc in same) is
walk_place (segment ∷ path) place last whole is e =
    next (λ p. walk_place path p last (All-tail IsSegment segment path whole)) (step segment place.names) refl e
  where
    next : ((p : Place) → IsPlace p → walk path p ≡ Some last → IsPlace last) → (o : Option Place)
        → step segment place.names ≡ o
        → option_and_then (λ p. walk path p) o ≡ Some last → IsPlace last
    next later None f g = absurd cc
    next later (Some p) f g = later p
        (step_place segment place.names p (All-head IsSegment segment path whole) is.each f) g

resolved_normal : (path normal : List ℕ) → resolved path ≡ Ok normal → IsNormal normal
resolved_normal path normal e = from (walk (segments path) root) refl e
  where
    from : (o : Option Place) → walk (segments path) root ≡ o → told o ≡ Ok normal → IsNormal normal
    from None f g = absurd cc
    from (Some place) f g =
        let is = walk_place (segments path) root place (are_segments path) (folder_place [] (All-nil IsName)) f in
        record {
          place = place;
          spelled = (let same : normal ≡ path_of place = cc in same);
          each = is.each;
          some = is.some;
        }

-- a test that is passed, or an answer that is none
passed : (t : Bool) (answer : Result (List ℕ) PathStop) (path : List ℕ) → cond t answer (Err BadEscape) ≡ Ok path
    → answer ≡ Ok path
passed true answer path e = e
passed false answer path e = absurd cc

refused : (t : Bool) (answer : Result (List ℕ) PathStop) (path : List ℕ) → cond t (Err BadEscape) answer ≡ Ok path
    → answer ≡ Ok path
refused true answer path e = absurd cc
refused false answer path e = e

pub normal : (raw path : List ℕ) → normal_path_of raw ≡ Ok path → IsNormal path
unfolding normal_path_of
normal raw path is =
    let bytes = percent_decode raw in
    let text = passed (is_written raw) (normal_bytes bytes) path is in
    let whole = passed (is_utf8 bytes) (normal_text (chars bytes)) path text in
    resolved_normal (chars bytes) path (refused (is_odd (chars bytes)) (resolved (chars bytes)) path whole)

-- ---- walking again

no_slashes : (name : List ℕ) → list_any is_slash name ≡ false → All (λ c. is_slash c ≡ false) name
no_slashes [] none = All-nil (λ c. is_slash c ≡ false)
no_slashes (c ∷ name) none =
    by_cases (λ t. is_slash c ≡ t → (t || list_any is_slash name) ≡ false → All (λ x. is_slash x ≡ false) (c ∷ name))
    (is_slash c)
    (λ _ _ f. absurd cc) (λ _ e f. All-cons (λ x. is_slash x ≡ false) c name e (no_slashes name f)) refl none

-- what ends the path of a folder, and its last segment
abbrev ending : Bool → List ℕ
ending folder = cond folder (47 ∷ []) []

abbrev endings : Bool → List (List ℕ)
endings folder = cond folder ([] ∷ []) []

segments_of : (name : List ℕ) (names : List (List ℕ)) (folder : Bool) → IsName name → All IsName names
    → segments (name ++ (way names ++ ending folder)) ≡ name ∷ (names ++ endings folder)
segments_of name [] true is all = slice_split_at is_slash name 47 [] (no_slashes name is.whole) refl
segments_of name [] false is all =
    ap segments (append-nil name) ∙ slice_split_none is_slash name (no_slashes name is.whole)
segments_of name (next ∷ names) folder is all =
    ap (λ l. segments (name ++ 47 ∷ l)) (append_assoc next (way names) (ending folder))
    ∙ slice_split_at is_slash name 47 (next ++ (way names ++ ending folder)) (no_slashes name is.whole) refl
    ∙ ap (λ l. name ∷ l) (segments_of next names folder (All-head IsName next names all)
    (All-tail IsName next names all))

-- where names lead
step_name : (name : List ℕ) (names : List (List ℕ)) → IsName name
    → step name names ≡ Some (record { names = names ++ name ∷ []; folder = false })
step_name name names is =
    let file : Option Place = Some (record { names = names ++ name ∷ []; folder = false }) in
    ap (λ t. cond t (Some (record { names = names; folder = true })) (cond (is_parent name) (above names) file))
    is.not_here
    ∙ ap (λ t. cond t (above names) file) is.not_parent

walk_names : (name : List ℕ) (names before : List (List ℕ)) (was folder : Bool) → IsName name → All IsName names
    → walk (name ∷ (names ++ endings folder)) (record { names = before; folder = was })
    ≡ Some (record { names = before ++ name ∷ names; folder = folder })
walk_names name [] before was true is all = ap (option_and_then (λ p. walk ([] ∷ []) p)) (step_name name before is)
walk_names name [] before was false is all = ap (option_and_then (λ p. walk [] p)) (step_name name before is)
walk_names name (next ∷ names) before was folder is all =
    ap (option_and_then (λ p. walk (next ∷ (names ++ endings folder)) p)) (step_name name before is)
    ∙ walk_names next names (before ++ name ∷ []) false folder (All-head IsName next names all)
    (All-tail IsName next names all)
    ∙ ap (λ l. Some (record { names = l; folder = folder })) (append_assoc before (name ∷ []) (next ∷ names))

path_is : (names : List (List ℕ)) (folder : Bool)
    → path_of (record { names = names; folder = folder }) ≡ way names ++ ending folder
path_is names true = refl
path_is names false = sym (append-nil (way names))

names_stay : (names : List (List ℕ)) (folder : Bool) → All IsName names → (folder ≡ false → 0 < length names)
    → resolved (path_of (record { names = names; folder = folder }))
    ≡ Ok (path_of (record { names = names; folder = folder }))
names_stay [] true all some = refl
names_stay [] false all some = absurd (let few : 0 < 0 = some refl in omega (arith, few))
names_stay (name ∷ names) folder all some =
    let is = All-head IsName name names all in
    let others = All-tail IsName name names all in
    let path = path_of (record { names = name ∷ names; folder = folder }) in
    let spelled : path ≡ 47 ∷ (name ++ (way names ++ ending folder)) =
    path_is (name ∷ names) folder ∙ ap (λ l. 47 ∷ l) (append_assoc name (way names) (ending folder)) in
    let parts : segments path ≡ [] ∷ (name ∷ (names ++ endings folder)) =
    ap segments spelled ∙ slice_split-cons_yes is_slash 47 (name ++ (way names ++ ending folder)) refl
    ∙ ap (λ l. [] ∷ l) (segments_of name names folder is others) in
    ap (λ l. told (walk l root)) parts ∙ ap told (walk_names name names [] true folder is others)

pub stays : (path : List ℕ) → IsNormal path → resolved path ≡ Ok path
stays path is =
    subst (λ p. resolved p ≡ Ok p) (sym is.spelled) (names_stay is.place.names is.place.folder is.each is.some)
