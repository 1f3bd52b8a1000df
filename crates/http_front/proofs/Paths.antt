-- A path is not much longer than the bytes that name it.
use Rattle.std.proofs.Common.{◌≡◌, ℕ, zero, suc, ◌+◌, ◌-◌, ◌*◌, ◌<◌, ◌≤◌, Bool, true, false, cond, List, [], ◌∷◌}
use Rattle.std.proofs.Common.{◌++◌, length, take, refl, ap, arith, length-append, Option, Some, None, Result, Ok, Err}
use Rattle.std.specs.Prelude.{◌==◌}
use Rattle.std.specs.List.{onto_first}
use Rattle.std.specs.Option.{option_and_then}
use Rattle.std.specs.Str.{chars, chars_after, continuation_len, lead_bits, is_utf8}
use Rattle.percent_encoding.specs.Percent.{percent_decode}
use Rattle.percent_encoding.proofs.PercentLemmas.{length-percent_decode}
use Rattle.asp_text.specs.declared.path.PathStop.{PathStop}
use Rattle.asp_text.specs.declared.path.PathStop.TheVariants.{BadEscape}
use Rattle.asp_text.specs.Path.{Place, segments, is_here, is_parent, above, step, walk, root, way, path_of}
use Rattle.asp_text.specs.Path.{told, resolved, normal_text, normal_bytes, is_written, is_odd, normal_path_of}
use Rattle.asp_text.proofs.Places.{by_cases}

-- ---- characters

length-chars_after : (n c : ℕ) (bytes : List ℕ) → length (chars_after n c bytes) ≤ length bytes + 1
length-chars_after zero c [] = omega arith
length-chars_after zero c (b ∷ bytes) = omega (arith, length-chars_after (continuation_len b) (lead_bits b) bytes)
length-chars_after (suc n) c [] = omega arith
length-chars_after (suc n) c (b ∷ bytes) = omega (arith, length-chars_after n (c * 64 + (b - 128)) bytes)

length-chars : (bytes : List ℕ) → length (chars bytes) ≤ length bytes
unfolding chars
length-chars [] = omega arith
length-chars (b ∷ bytes) = omega (arith, length-chars_after (continuation_len b) (lead_bits b) bytes)

-- ---- segments

-- how long the names are, each with its slash
abbrev room : List (List ℕ) → ℕ
room [] = 0
room (name ∷ names) = length name + 1 + room names

room-onto_first : (c : ℕ) (names : List (List ℕ)) → 0 < length names → room (onto_first c names) ≡ room names + 1
room-onto_first c [] some = omega arith
room-onto_first c (name ∷ names) some = omega arith

-- there is a segment, and segments are no longer than their path and one slash
record Fits (path : List ℕ) (names : List (List ℕ)) : Type 0 where
  some : 0 < length names
  short : room names ≤ length path + 1

segments_fit : (path : List ℕ) → Fits path (segments path)
segments_fit [] = record { some = omega arith; short = omega arith }
segments_fit (c ∷ path) =
    let rest = segments_fit path in
    by_cases (λ t. c == 47 ≡ t → Fits (c ∷ path) (cond t ([] ∷ segments path) (onto_first c (segments path)))) (c == 47)
    (λ _ _. record { some = omega arith; short = omega (arith, rest.short) })
    (λ _ _. record {
      some = onto_some (segments path);
      short = omega (arith, rest.short, room-onto_first c (segments path) rest.some);
    }) refl
  where
    onto_some : (names : List (List ℕ)) → 0 < length (onto_first c names)
    onto_some [] = omega arith
    onto_some (name ∷ names) = omega arith

room-append : (names more : List (List ℕ)) → room (names ++ more) ≡ room names + room more
room-append [] more = omega arith
room-append (name ∷ names) more = omega (arith, room-append names more)

room-take : (count : ℕ) (names : List (List ℕ)) → room (take count names) ≤ room names
room-take zero names = omega arith
room-take (suc count) [] = omega arith
room-take (suc count) (name ∷ names) = omega (arith, room-take count names)

length-way : (names : List (List ℕ)) → length (way names) ≡ room names
length-way [] = refl
length-way (name ∷ names) = omega (arith, length-append name (way names), length-way names)

-- ---- places

above_is_short : (names : List (List ℕ)) (next : Place) → above names ≡ Some next → room next.names ≤ room names
above_is_short [] next is = absurd cc
above_is_short (name ∷ names) next is =
    let same : take (length names) (name ∷ names) ≡ next.names = cc in
    omega (arith, room-take (length names) (name ∷ names), ap room same)

step_is_short : (segment : List ℕ) (names : List (List ℕ)) (next : Place) → step segment names ≡ Some next
    → room next.names ≤ room names + (length segment + 1)
step_is_short segment names next is =
    let here : Place = record { names = names; folder = true } in
    let child : Place = record { names = names ++ segment ∷ []; folder = false } in
    by_cases (λ t. is_here segment ≡ t
    → cond t (Some here) (cond (is_parent segment) (above names) (Some child)) ≡ Some next
    → room next.names ≤ room names + (length segment + 1)) (is_here segment)
    (λ _ _ f. let same : names ≡ next.names = cc in omega (arith, ap room same))
    (λ _ _. by_cases (λ t. is_parent segment ≡ t → cond t (above names) (Some child) ≡ Some next
    → room next.names ≤ room names + (length segment + 1)) (is_parent segment)
    (λ _ _ f. omega (arith, above_is_short names next f))
    (λ _ _ f.
    let same : names ++ segment ∷ [] ≡ next.names = cc in
    omega (arith, ap room same, room-append names (segment ∷ []))) refl) refl is

walk_is_short : (path : List (List ℕ)) (place last : Place) → walk path place ≡ Some last
    → room last.names ≤ room place.names + room path
walk_is_short [] place last is = let same : place ≡ last = cc in omega (arith, ap (λ p. room p.names) same)
walk_is_short (segment ∷ path) place last is =
    next (λ p. walk_is_short path p last) (step segment place.names) refl is
  where
    next : ((p : Place) → walk path p ≡ Some last → room last.names ≤ room p.names + room path) → (o : Option Place)
        → step segment place.names ≡ o → option_and_then (λ p. walk path p) o ≡ Some last
        → room last.names ≤ room place.names + (length segment + 1 + room path)
    next later None f g = absurd cc
    next later (Some p) f g = omega (arith, later p g, step_is_short segment place.names p f)

length-path_of : (place : Place) → length (path_of place) ≤ room place.names + 1
length-path_of place =
    by_cases (λ t. place.folder ≡ t
    → length (cond t (way place.names ++ 47 ∷ []) (way place.names)) ≤ room place.names + 1)
    place.folder
    (λ _ _. omega (arith, length-append (way place.names) (47 ∷ []), length-way place.names))
    (λ _ _. omega (arith, length-way place.names)) refl

resolved_is_short : (path normal : List ℕ) → resolved path ≡ Ok normal → length normal ≤ length path + 2
resolved_is_short path normal is = from (walk (segments path) root) refl is
  where
    from : (o : Option Place) → walk (segments path) root ≡ o → told o ≡ Ok normal → length normal ≤ length path + 2
    from None f g = absurd cc
    from (Some place) f g =
        let same : normal ≡ path_of place = cc in
        omega (
          arith,
          ap length same,
          length-path_of place,
          walk_is_short (segments path) root place f,
          (segments_fit path).short,
        )

-- ---- paths as requests write them

-- a test that is passed, or an answer that is none
passed : (t : Bool) (answer : Result (List ℕ) PathStop) (path : List ℕ) → cond t answer (Err BadEscape) ≡ Ok path
    → answer ≡ Ok path
passed true answer path e = e
passed false answer path e = absurd cc

refused : (t : Bool) (answer : Result (List ℕ) PathStop) (path : List ℕ) → cond t (Err BadEscape) answer ≡ Ok path
    → answer ≡ Ok path
refused true answer path e = absurd cc
refused false answer path e = e

pub normal_path_is_short : (raw path : List ℕ) → normal_path_of raw ≡ Ok path → length path ≤ length raw + 2
unfolding normal_path_of
normal_path_is_short raw path is =
    let bytes = percent_decode raw in
    let text = passed (is_written raw) (normal_bytes bytes) path is in
    let whole = passed (is_utf8 bytes) (normal_text (chars bytes)) path text in
    let plain = refused (is_odd (chars bytes)) (resolved (chars bytes)) path whole in
    omega (arith, resolved_is_short (chars bytes) path plain, length-chars bytes, (length-percent_decode raw).0)
