-- Places of a pattern in a text.
use Rattle.std.proofs.Common.{zero, suc, sym, subst, ◌≡◌, ℕ, ◌+◌, ◌-◌, ◌<◌, ◌≤◌, Bool, true, false, List, [], ◌∷◌, Some, None}
use Rattle.std.proofs.Common.{length, drop, get_or, reverse, refl, ap, ◌∙◌, arith, length-drop}
use Rattle.std.specs.List.{find, range_with_len}
use Rattle.std.proofs.lemmas.Bool.{and_parts}
use Rattle.std.proofs.lemmas.List.{get_or-reverse, length-reverse}
use Rattle.std.proofs.lemmas.List.FromFn.{length-range_with_len, get_or-range_with_len}
use Rattle.std.proofs.lemmas.List.Recursion.{found_at, found_nowhere}
use Rattle.vb_strings.specs.declared.comparing.Comparison.{Comparison}
use Rattle.vb_strings.specs.Comparing.{same}
use Rattle.vb_strings.specs.Searching.{begins, stands, first_in, last_in, place_of}

-- a text is as long as what it begins with
begins_fits : (comparison : Comparison) (text pattern : List ℕ) → begins comparison text pattern ≡ true
    → length pattern ≤ length text
begins_fits comparison text [] is = omega arith
begins_fits comparison [] (letter ∷ pattern) is = absurd (cc)
begins_fits comparison (character ∷ text) (letter ∷ pattern) is =
    let rest : length pattern ≤ length text = begins_fits comparison text pattern
    (and_parts (same comparison character letter) (begins comparison text pattern) is).1 in
    omega arith

-- what stands in a text ends in it
pub fits : (comparison : Comparison) (text pattern : List ℕ) (before : ℕ) → before ≤ length text
    → stands comparison text pattern before ≡ true → before + length pattern ≤ length text
fits comparison text pattern before within is =
    let rest : length pattern ≤ length (drop before text) = begins_fits comparison (drop before text) pattern is in
    omega (arith, length-drop before text)

module _ (test : ℕ → Bool) (count : ℕ) where
  in_order : (k : ℕ) → k < count → get_or (range_with_len 0 count) k 0 ≡ k
  in_order k within = get_or-range_with_len 0 count k 0 within ∙ omega arith

  in_reverse : (k : ℕ) → k < count → get_or (reverse (range_with_len 0 count)) k 0 ≡ count - 1 - k
  in_reverse k within =
      let length_is : length (range_with_len 0 count) ≡ count = length-range_with_len 0 count in
      get_or-reverse (range_with_len 0 count) k 0 (omega arith)
      ∙ ap (λ n. get_or (range_with_len 0 count) (n - 1 - k) 0) length_is
      ∙ in_order (count - 1 - k) (omega arith)

  -- the first number below the count that passes
  first_of_all : (i : ℕ) → i < count → ((k : ℕ) → k < i → test k ≡ false) → test i ≡ true
      → find test (range_with_len 0 count) ≡ Some i
  first_of_all i within before is =
      let length_is : length (range_with_len 0 count) ≡ count = length-range_with_len 0 count in
      found_at (find test) test Some None refl (λ _ _. refl) (range_with_len 0 count) i 0 (omega arith)
      (λ k below. ap test (in_order k (omega arith)) ∙ before k below)
      (ap test (in_order i within) ∙ is)
      ∙ ap Some (in_order i within)

  -- the last number below the count that passes
  last_of_all : (i : ℕ) → i < count → ((k : ℕ) → i < k → k < count → test k ≡ false) → test i ≡ true
      → find test (reverse (range_with_len 0 count)) ≡ Some i
  last_of_all i within behind is =
      let length_is : length (range_with_len 0 count) ≡ count = length-range_with_len 0 count in
      let reversed : length (reverse (range_with_len 0 count)) ≡ length (range_with_len 0 count) =
      length-reverse (range_with_len 0 count) in
      let place : get_or (reverse (range_with_len 0 count)) (count - 1 - i) 0 ≡ i =
      in_reverse (count - 1 - i) (omega arith) ∙ omega arith in
      found_at (find test) test Some None refl (λ _ _. refl) (reverse (range_with_len 0 count)) (count - 1 - i) 0
      (omega arith)
      (λ k below. ap test (in_reverse k (omega arith)) ∙ behind (count - 1 - k) (omega arith) (omega arith))
      (ap test place ∙ is)
      ∙ ap Some place

  -- no number below the count passes, from either side
  none_of_all : ((k : ℕ) → k < count → test k ≡ false) → find test (range_with_len 0 count) ≡ None
  none_of_all none =
      let length_is : length (range_with_len 0 count) ≡ count = length-range_with_len 0 count in
      found_nowhere (find test) test Some None refl (λ _ _. refl) (range_with_len 0 count) 0
      (λ k below. ap test (in_order k (omega arith)) ∙ none k (omega arith))

  none_in_reverse : ((k : ℕ) → k < count → test k ≡ false) → find test (reverse (range_with_len 0 count)) ≡ None
  none_in_reverse none =
      let length_is : length (range_with_len 0 count) ≡ count = length-range_with_len 0 count in
      let reversed : length (reverse (range_with_len 0 count)) ≡ length (range_with_len 0 count) =
      length-reverse (range_with_len 0 count) in
      found_nowhere (find test) test Some None refl (λ _ _. refl) (reverse (range_with_len 0 count)) 0
      (λ k below. ap test (in_reverse k (omega arith)) ∙ none (count - 1 - k) (omega arith))

module _ (comparison : Comparison) (text pattern : List ℕ) where
  -- the first place at which a pattern stands
  pub first_is : (before : ℕ) → before < length text
      → ((k : ℕ) → k < before → stands comparison text pattern k ≡ false)
      → stands comparison text pattern before ≡ true → first_in comparison text pattern ≡ Some before
  first_is before = first_of_all (stands comparison text pattern) (length text) before

  -- the last one
  pub last_is : (before : ℕ) → before < length text
      → ((k : ℕ) → before < k → k < length text → stands comparison text pattern k ≡ false)
      → stands comparison text pattern before ≡ true → last_in comparison text pattern ≡ Some before
  last_is before = last_of_all (stands comparison text pattern) (length text) before

  -- a pattern that stands nowhere has no first place and no last one
  pub none_found : ((k : ℕ) → k < length text → stands comparison text pattern k ≡ false)
      → first_in comparison text pattern ≡ None
  none_found = none_of_all (stands comparison text pattern) (length text)

  pub none_left : ((k : ℕ) → k < length text → stands comparison text pattern k ≡ false)
      → last_in comparison text pattern ≡ None
  none_left = none_in_reverse (stands comparison text pattern) (length text)

  -- the last place, counted from 1
  pub last_place_is : (last : ℕ) → last ≤ length text → (0 < last → stands comparison text pattern (last - 1) ≡ true)
      → ((k : ℕ) → last ≤ k → k < length text → stands comparison text pattern k ≡ false)
      → last ≡ place_of 0 (last_in comparison text pattern)
  last_place_is zero within here none = sym (ap (place_of 0) (none_left (λ k below. none k (omega arith) below)))
  last_place_is (suc before) within here none =
      let back : suc before - 1 ≡ before = omega arith in
      let stood : stands comparison text pattern before ≡ true =
      subst (λ n. stands comparison text pattern n ≡ true) back (here (omega arith)) in
      let place : 0 + before + 1 ≡ suc before = omega arith in
      sym (ap (place_of 0) (last_is before (omega arith) (λ k above below. none k (omega arith) below) stood) ∙ place)

-- a pattern without characters stands last at the last character
pub last_of_nothing : (comparison : Comparison) (text : List ℕ)
    → length text ≡ place_of 0 (last_in comparison text [])
last_of_nothing comparison text =
    last_place_is comparison text [] (length text) (omega arith) (λ some. refl) (λ k above below. absurd (omega arith))
