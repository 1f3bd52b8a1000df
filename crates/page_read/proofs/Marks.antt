-- What a text begins with, in any ASCII case, and the first place of a mark.
use Rattle.std.proofs.Common.{◌≡◌, ℕ, ◌+◌, ◌-◌, ◌<◌, ◌≤◌, Bool, true, false, List, ◌∷◌, length, get_or, take, drop}
use Rattle.std.proofs.Common.{refl, sym}
use Rattle.std.proofs.Common.{◌∙◌, ap, arith, length-drop}
use Rattle.std.proofs.Common.{drop-cons, add-one, inl, inr}
use Rattle.std.specs.Prelude.{bytes_eq, Option, Some, None, cond}
use Rattle.std.specs.Option.{option_map}
use Rattle.std.specs.Char.{to_ascii_lowercase}
use Rattle.std.proofs.lemmas.List.{take_more_same, get_or-map, get_or_default, length-map, length-take, take_all}
use Rattle.std.proofs.lemmas.List.{drop_all}
use Rattle.std.proofs.lemmas.Slice.Eq.{bytes_eq-Decides}
use Rattle.std.proofs.lemmas.Bool.{cases_Bool}
use Rattle.vb_value.specs.Folding.{folded}
use Rattle.page_read.specs.Marks.{begins, place_of}

-- one letter more of a mark
pub letter_more : (text mark : List ℕ) (at c small letter : ℕ) → at < length text → at < length mark
    → c ≡ get_or text at c → letter ≡ get_or mark at letter → small ≡ to_ascii_lowercase c → small ≡ letter
    → take at (folded text) ≡ take at mark → take (at + 1) (folded text) ≡ take (at + 1) mark
letter_more text mark at c small letter within in_mark read read_mark folds same before =
    let long : at < length (folded text) = simp length-map within in
    let there : get_or (folded text) at 0 ≡ to_ascii_lowercase (get_or text at c) =
    get_or-map to_ascii_lowercase text at c 0 within in
    let here : get_or mark at 0 ≡ get_or mark at letter = get_or_default mark at 0 letter in_mark in
    let folds' : to_ascii_lowercase c ≡ to_ascii_lowercase (get_or text at c) = ap to_ascii_lowercase read in
    take_more_same (folded text) mark at 0 long in_mark before cc

-- a test that says whether two texts are equal
pub decided : (r : Bool) (xs ys : List ℕ) → ((r ≡ true) → xs ≡ ys) → ((xs ≡ ys) → r ≡ true) → r ≡ bytes_eq xs ys
decided r xs ys says said =
    let test : (b : Bool) → bytes_eq xs ys ≡ b → r ≡ b = elim [
      | true ↦ λ is. said ((bytes_eq-Decides xs ys).0 is)
      | false ↦ λ is. elim (cases_Bool r) [
        | inl equal ↦ let same = (bytes_eq-Decides xs ys).1 (says equal) in cc
        | inr other ↦ other
      ]
    ] in
    test (bytes_eq xs ys) refl

-- a place, so many characters further on
abbrev pub from_there : ℕ → Option ℕ → Option ℕ
from_there at place = option_map (λ k. k + at) place

-- one place further on
shifted : (at : ℕ) (place : Option ℕ) → from_there at (option_map (λ k. k + 1) place) ≡ from_there (at + 1) place
shifted at None = refl
shifted at (Some k) = ap (λ (n : ℕ). Some n) (omega arith)

-- the search at a place
place_step : (mark text : List ℕ) (at : ℕ) → at < length text → place_of mark (drop at text)
    ≡ cond (begins mark (drop at text)) (Some 0) (option_map (λ k. k + 1) (place_of mark (drop (at + 1) text)))
unfolding place_of
place_step mark text at within =
    let cut : drop at text ≡ get_or text at 0 ∷ drop (at + 1) text = rw add-one (drop-cons text at 0 within) in
    rw cut refl

-- where the mark doesn't stand at the place, the search goes on behind it
pub place_more : (mark text : List ℕ) (at : ℕ) (found : Option ℕ) → at < length text
    → begins mark (drop at text) ≡ false
    → found ≡ from_there at (place_of mark (drop at text))
    → found ≡ from_there (at + 1) (place_of mark (drop (at + 1) text))
place_more mark text at found within fails before =
    let next = option_map (λ (k : ℕ). k + 1) (place_of mark (drop (at + 1) text)) in
    before ∙ ap (from_there at) (place_step mark text at within ∙ ap (λ (b : Bool). cond b (Some 0) next) fails)
    ∙ shifted at (place_of mark (drop (at + 1) text))

-- no place further on is the place itself
none_further : (at : ℕ) → from_there at (Some 0) ≡ Some at
none_further at = ap (λ (n : ℕ). Some n) (omega arith)

-- where the mark stands at the place, it is found there
pub place_here : (mark text : List ℕ) (at : ℕ) (found : Option ℕ) → at < length text → begins mark (drop at text) ≡ true
    → found ≡ from_there at (place_of mark (drop at text)) → Some at ≡ found
place_here mark text at found within stands before =
    let next = option_map (λ (k : ℕ). k + 1) (place_of mark (drop (at + 1) text)) in
    sym (before ∙ ap (from_there at) (place_step mark text at within ∙ ap (λ (b : Bool). cond b (Some 0) next) stands)
    ∙ none_further at)

-- at the end of the text it is not found
pub place_nowhere : (mark text : List ℕ) (at : ℕ) (found : Option ℕ) → length text ≤ at
    → found ≡ from_there at (place_of mark (drop at text)) → None ≡ found
unfolding place_of
place_nowhere mark text at found end before =
    let none : place_of mark (drop at text) ≡ None = ap (place_of mark) (drop_all at text end) in
    sym (before ∙ ap (from_there at) none)

-- a text has as many characters with its letters made small
length_folded : (text : List ℕ) → length (folded text) ≡ length text
length_folded text = simp length-map

-- a mark that stands in front of a text isn't longer
pub begins_short : (mark text : List ℕ) → begins mark text ≡ true → length mark ≤ length text
begins_short mark text is =
    let same = ap length ((bytes_eq-Decides (take (length mark) (folded text)) mark).0 is) in
    omega (arith, same, length-take (length mark) (folded text), length_folded text)

-- all that a text has from a place on
pub whole_rest : (text : List ℕ) (at : ℕ) → take (length text - at) (drop at text) ≡ drop at text
whole_rest text at = take_all (length text - at) (drop at text) (omega (arith, length-drop at text))

-- what a test says of a text that is cut so
pub tested : (mark text : List ℕ) (at : ℕ) (is : Bool) (b : Bool)
    → is ≡ begins mark (take (length text - at) (drop at text))
    → is ≡ b → begins mark (drop at text) ≡ b
tested mark text at is b tests says = ap (begins mark) (sym (whole_rest text at)) ∙ (sym tests ∙ says)
