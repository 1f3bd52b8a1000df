-- How deep the arrays of an array nest.
use Rattle.std.proofs.Common.{◌≡◌, ℕ, ◌+◌, ◌-◌, ◌≢◌, ◌≤◌, ◌<◌, max, nat_le, Bool, false, ◌&&◌, List, [], ◌∷◌, take}
use Rattle.std.proofs.Common.{map, fold, length, get_or, sym, ap, ◌∙◌, arith}
use Rattle.std.specs.List.{list_all}
use Rattle.std.proofs.lemmas.List.{take_all}
use Rattle.std.proofs.lemmas.List.Folds.{list_all_more}
use Rattle.std.proofs.lemmas.Bool.Decides.{nat_tests}
use Rattle.vb_value.specs.declared.value.Value.{Value}
use Rattle.vb_value.specs.declared.value.Array.{Array}
use Rattle.vb_value.specs.declared.value.Value.TheViews.{Arr}
use Rattle.vb_value.specs.Plain.{depth_of, value_depth, array_depth, greatest}
use Rattle.vb_heap.proofs.Values.{fold-Arr}

-- whether the arrays of a value nest so deep at most
abbrev pub is_within : ℕ → Value → Bool
is_within most value = nat_le (depth_of value) most

depth-Arr : (array : Array) → depth_of (Arr array) ≡ 1 + greatest (map depth_of array.items)
depth-Arr array = fold-Arr ℕ ℕ value_depth array_depth array

from : (most : ℕ) (numbers : List ℕ) → fold max most numbers ≡ max most (greatest numbers)
from most [] = grind arith
from most (n ∷ numbers) =
    let first : fold max (max most n) numbers ≡ max (max most n) (greatest numbers) = from (max most n) numbers in
    let alone : fold max (max 0 n) numbers ≡ max (max 0 n) (greatest numbers) = from (max 0 n) numbers in
    first ∙ rw alone (omega arith)

both : (m n most : ℕ) → (nat_le m most && nat_le n most) ≡ nat_le (max m n) most
both m n most = grind (arith, nat_tests)

each : (most : ℕ) (items : List Value)
    → list_all (is_within most) items ≡ nat_le (greatest (map depth_of items)) most
each most [] = grind (arith, nat_tests)
each most (item ∷ items) =
    let deepest : greatest (map depth_of (item ∷ items)) ≡ max (depth_of item) (greatest (map depth_of items)) =
    from (max 0 (depth_of item)) (map depth_of items) ∙ omega arith in
    ap (λ rest. is_within most item && rest) (each most items)
    ∙ (both (depth_of item) (greatest (map depth_of items)) most ∙ ap (λ n. nat_le n most) (sym deepest))

deeper : (depth most : ℕ) → most ≢ 0 → nat_le (1 + depth) most ≡ nat_le depth (most - 1)
deeper depth most some = grind (arith, nat_tests)

-- an array has some depth
pub no_depth : (array : Array) → is_within 0 (Arr array) ≡ false
no_depth array = rw (depth-Arr array) (grind (arith, nat_tests))

-- one item more
pub one_more : (test : Value → Bool) (items : List Value) (at : ℕ) (item : Value) → at < length items
    → item ≡ get_or items at item
    → list_all test (take (at + 1) items) ≡ (list_all test (take at items) && test item)
one_more test items at item within is =
    list_all_more test items at item within ∙ ap (λ last. list_all test (take at items) && test last) (sym is)

-- an array whose items were all looked at
pub all_seen : (value : Value) (array : Array) (items : List Value) (most at : ℕ) (within : Bool)
    → value ≡ Arr array → items ≡ array.items → most ≢ 0 → length items ≤ at
    → within ≡ list_all (is_within (most - 1)) (take at items) → within ≡ is_within most value
all_seen value array items most at within is items_is some seen within_is =
    within_is
    ∙ (ap (list_all (is_within (most - 1))) (take_all at items seen ∙ items_is)
    ∙ (each (most - 1) array.items
    ∙ (sym (deeper (greatest (map depth_of array.items)) most some)
    ∙ (ap (λ n. nat_le n most) (sym (depth-Arr array)) ∙ ap (is_within most) (sym is)))))

-- what the test of an array stands on
pub ruleset depths = (no_depth, one_more, all_seen)
