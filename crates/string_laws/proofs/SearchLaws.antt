-- The place of a pattern that stands once, and searches without case.
use Rattle.std.proofs.Common.{◌≡◌, ℕ, ◌+◌, ◌<◌, ◌≤◌, ◌^◌, true, false, ◌&&◌, List, [], ◌∷◌, Ok, pos, negsuc}
use Rattle.std.proofs.Common.{length, drop, refl, sym, ap, ◌∙◌, arith, inl, inr}
use Rattle.std.proofs.Common.{Bool, cond, Some, reverse}
use Rattle.std.specs.Char.{to_ascii_lowercase}
use Rattle.std.specs.List.{find, range_with_len}
use Rattle.std.proofs.lemmas.Bool.{le-ltb, false_from_ne_true, cases_lt}
use Rattle.std.proofs.lemmas.List.{take_all, drop_all, drop-map, length-map}
use Rattle.vb_value.specs.declared.function.StrFn.TheVariants.{InStr, InStrRev}
use Rattle.vb_value.specs.declared.value.Value.{Long}
use Rattle.vb_value.specs.Folding.{folded}
use Rattle.vb_strings.specs.declared.comparing.Comparison.{Comparison}
use Rattle.vb_strings.specs.declared.comparing.Comparison.TheVariants.{Exact, AnyCase}
use Rattle.vb_strings.specs.Comparing.{same}
use Rattle.vb_strings.specs.Functions.{call_string_of}
use Rattle.string_laws.specs.Laws.{SearchesAgree, SearchesLetters, StandsOnce}
use Rattle.vb_strings.specs.Results.{bounded, long}
use Rattle.vb_strings.specs.Searching.{begins, stands, places_in, first_in, last_in, place_of, search_from, search_up_to}
use Rattle.vb_strings.proofs.Found.{first_is, last_is}
use Rattle.string_laws.proofs.OrderLaws.{both_lowered}
use Rattle.string_laws.proofs.TextLaws.{long_fits}

-- a pattern that begins no characters has none, and stands everywhere
nowhere : (text pattern : List ℕ) (before : ℕ) → begins Exact [] pattern ≡ true
    → ((other : ℕ) → stands Exact text pattern other ≡ true → other ≡ before) → ⊥
nowhere text [] before is alone =
    let first : 0 ≡ before = alone 0 refl in
    let second : 1 ≡ before = alone 1 refl in
    omega arith
nowhere text (letter ∷ pattern) before is alone = cc

-- a pattern that stands once stands before some character
within_text : (text pattern : List ℕ) (before : ℕ) → StandsOnce text pattern before → before < length text
within_text text pattern before once =
    elim (cases_lt before (length text)) [
      | inl below ↦ below
      | inr past ↦
          absurd (nowhere text pattern before
          (ap (λ rest. begins Exact rest pattern) (sym (drop_all before text past)) ∙ once.here) once.alone)
    ]

-- it stands nowhere else
not_elsewhere : (text pattern : List ℕ) (before other : ℕ) → StandsOnce text pattern before → (other ≡ before → ⊥)
    → stands Exact text pattern other ≡ false
not_elsewhere text pattern before other once apart =
    false_from_ne_true (stands Exact text pattern other) (λ is. apart (once.alone other is))

from_front : (text pattern : List ℕ) (before : ℕ) → length text < 2 ^ 31 → StandsOnce text pattern before
    → search_from Exact text pattern (pos 1) ≡ Ok (Long (pos (before + 1)))
unfolding search_from
from_front text pattern before short once =
    let within : before < length text = within_text text pattern before once in
    let place : 0 + before + 1 ≡ before + 1 = omega arith in
    ap (λ first. long (place_of 0 first))
    (first_is Exact text pattern before within
    (λ k below. not_elsewhere text pattern before k once (λ same. omega arith)) once.here)
    ∙ ap long place
    ∙ long_fits (before + 1) (omega arith)

from_end : (text pattern : List ℕ) (before : ℕ) → length text < 2 ^ 31 → StandsOnce text pattern before
    → search_up_to Exact text pattern (negsuc 0) ≡ Ok (Long (pos (before + 1)))
unfolding search_up_to
from_end text pattern before short once =
    let within : before < length text = within_text text pattern before once in
    let place : 0 + before + 1 ≡ before + 1 = omega arith in
    let all : length text ≤ length text = omega arith in
    rw (le-ltb (length text) (length text) all)
    (ap (λ front. long (place_of 0 (last_in Exact front pattern))) (take_all (length text) text all)
    ∙ ap (λ last. long (place_of 0 last))
    (last_is Exact text pattern before within
    (λ k above below. not_elsewhere text pattern before k once (λ same. omega arith)) once.here)
    ∙ ap long place
    ∙ long_fits (before + 1) (omega arith))

pub searches_agree : SearchesAgree
searches_agree text pattern before short once =
    let fits : length text < 2 ^ 31 = omega arith in
    (ap bounded (from_front text pattern before fits once), ap bounded (from_end text pattern before fits once))

begins_folded : (text pattern : List ℕ)
    → begins AnyCase text pattern ≡ begins Exact (folded text) (folded pattern)
begins_folded text [] = refl
begins_folded [] (letter ∷ pattern) = refl
begins_folded (character ∷ text) (letter ∷ pattern) =
    ap (λ rest. same AnyCase character letter && rest) (begins_folded text pattern)

-- without case, a pattern stands where its small letters stand in the text with small letters
stands_folded : (text pattern : List ℕ) (before : ℕ)
    → stands AnyCase text pattern before ≡ stands Exact (folded text) (folded pattern) before
stands_folded text pattern before =
    begins_folded (drop before text) pattern
    ∙ ap (λ rest. begins Exact rest (folded pattern)) (sym (drop-map to_ascii_lowercase before text))

-- two tests that always agree find the same
find_same : (f g : ℕ → Bool) → ((n : ℕ) → f n ≡ g n) → (numbers : List ℕ) → find f numbers ≡ find g numbers
find_same f g each [] = refl
find_same f g each (n ∷ numbers) =
    ap (λ passes. cond passes (Some n) (find f numbers)) (each n)
    ∙ ap (λ rest. cond (g n) (Some n) rest) (find_same f g each numbers)

first_folded : (text pattern : List ℕ) → first_in AnyCase text pattern ≡ first_in Exact (folded text) (folded pattern)
first_folded text pattern =
    find_same (stands AnyCase text pattern) (stands Exact (folded text) (folded pattern)) (stands_folded text pattern)
    (places_in text)
    ∙ ap (λ count. find (stands Exact (folded text) (folded pattern)) (range_with_len 0 count))
    (sym (length-map text to_ascii_lowercase))

last_folded : (text pattern : List ℕ) → last_in AnyCase text pattern ≡ last_in Exact (folded text) (folded pattern)
last_folded text pattern =
    find_same (stands AnyCase text pattern) (stands Exact (folded text) (folded pattern)) (stands_folded text pattern)
    (reverse (places_in text))
    ∙ ap (λ count. find (stands Exact (folded text) (folded pattern)) (reverse (range_with_len 0 count)))
    (sym (length-map text to_ascii_lowercase))

search_from_folded : (text pattern : List ℕ)
    → search_from AnyCase text pattern (pos 1) ≡ search_from Exact (folded text) (folded pattern) (pos 1)
unfolding search_from
search_from_folded text pattern = ap (λ first. long (place_of 0 first)) (first_folded text pattern)

-- a search from the end goes over the whole text
whole_search : (comparison : Comparison) (text pattern : List ℕ)
    → search_up_to comparison text pattern (negsuc 0) ≡ long (place_of 0 (last_in comparison text pattern))
unfolding search_up_to
whole_search comparison text pattern =
    let all : length text ≤ length text = omega arith in
    rw (le-ltb (length text) (length text) all)
    (ap (λ front. long (place_of 0 (last_in comparison front pattern))) (take_all (length text) text all))

pub searches_letters : SearchesLetters
searches_letters text pattern short also = (
  ap bounded (search_from_folded text pattern)
      ∙ sym (both_lowered text pattern (λ first second. call_string_of InStr (first ∷ second ∷ [])) short also),
  ap bounded (whole_search AnyCase text pattern ∙ ap (λ last. long (place_of 0 last)) (last_folded text pattern)
      ∙ sym (whole_search Exact (folded text) (folded pattern)))
      ∙ sym (both_lowered text pattern (λ first second. call_string_of InStrRev (first ∷ second ∷ [])) short also),
)
