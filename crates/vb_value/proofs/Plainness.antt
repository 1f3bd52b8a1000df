-- Plain arrays.
use Rattle.std.proofs.Common.{◌≡◌, ℕ, ◌+◌, ◌-◌, ◌≢◌, ◌≤◌, ◌<◌, max, nat_le, Bool, true, false, not, ◌&&◌, ◌||◌}
use Rattle.std.proofs.Common.{IsTrue, List, [], ◌∷◌, take, map, fold, length, get_or, refl, sym, ap, ◌∙◌, arith}
use Rattle.std.specs.List.{list_all, list_any}
use Rattle.std.proofs.lemmas.List.{take_all}
use Rattle.std.proofs.lemmas.List.Folds.{list_all_more}
use Rattle.std.proofs.lemmas.Bool.Decides.{nat_tests}
use Rattle.vb_value.specs.declared.value.Value.{Value}
use Rattle.vb_value.specs.declared.value.Array.{Array}
use Rattle.vb_value.specs.declared.value.Value.TheViews.{Arr}
use Rattle.vb_value.specs.Plain.{IsPlain, has_reference, value_refers, array_refers, depth_of, value_depth}
use Rattle.vb_value.specs.Plain.{array_depth, greatest}
use Rattle.vb_value.proofs.Arrays.{fold-Arr}

-- whether a value is plain, but for how deep its arrays nest
abbrev pub is_plain_to : ℕ → Value → Bool
is_plain_to depth value = not (has_reference value) && nat_le (depth_of value) depth

refers-Arr : (array : Array) → has_reference (Arr array) ≡ list_any (λ refers. refers) (map has_reference array.items)
refers-Arr array = fold-Arr Bool Bool value_refers array_refers array

depth-Arr : (array : Array) → depth_of (Arr array) ≡ 1 + greatest (map depth_of array.items)
depth-Arr array = fold-Arr ℕ ℕ value_depth array_depth array

fold_most : (most : ℕ) (numbers : List ℕ) → fold max most numbers ≡ max most (fold max 0 numbers)
fold_most most [] = grind arith
fold_most most (n ∷ numbers) =
    let first : fold max (max most n) numbers ≡ max (max most n) (fold max 0 numbers) =
    fold_most (max most n) numbers in
    let alone : fold max (max 0 n) numbers ≡ max (max 0 n) (fold max 0 numbers) = fold_most (max 0 n) numbers in
    first ∙ rw alone (omega arith)

and_false : (b : Bool) → b && false ≡ false
and_false true = refl
and_false false = refl

step : (r s : Bool) (d e depth : ℕ)
    → (not r && nat_le d depth) && (not s && nat_le e depth) ≡ (not (r || s) && nat_le (max d e) depth)
step true s d e depth = refl
step false true d e depth = and_false (nat_le d depth)
step false false d e depth = grind (arith, nat_tests)

deepest : (first : ℕ) (rest : List ℕ) → greatest (first ∷ rest) ≡ max first (greatest rest)
deepest first rest = fold_most (max 0 first) rest ∙ omega arith

each : (depth : ℕ) (items : List Value) → list_all (is_plain_to depth) items
    ≡ (not (list_any (λ refers. refers) (map has_reference items)) && nat_le (greatest (map depth_of items)) depth)
each depth [] = grind (arith, nat_tests)
each depth (item ∷ items) =
    ap (λ rest. is_plain_to depth item && rest) (each depth items)
    ∙ (step (has_reference item) (list_any (λ refers. refers) (map has_reference items)) (depth_of item)
    (greatest (map depth_of items)) depth
    ∙ ap (λ n. not
    (has_reference item || list_any (λ refers. refers) (map has_reference items)) && nat_le n depth)
    (sym (deepest (depth_of item) (map depth_of items))))

deeper : (d depth : ℕ) → nat_le (1 + d) (depth + 1) ≡ nat_le d depth
deeper d depth = grind (arith, nat_tests)

-- a plain array
pub plain_array : (array : Array) (depth : ℕ)
    → is_plain_to (depth + 1) (Arr array) ≡ list_all (is_plain_to depth) array.items
plain_array array depth =
    let refers : Bool = list_any (λ refers. refers) (map has_reference array.items) in
    ap (λ r. not r && nat_le (depth_of (Arr array)) (depth + 1)) (refers-Arr array)
    ∙ (ap (λ d. not refers && nat_le d (depth + 1)) (depth-Arr array)
    ∙ (ap (λ b. not refers && b) (deeper (greatest (map depth_of array.items)) depth)
    ∙ sym (each depth array.items)))

-- an array is not plain without depth
pub shallow_array : (array : Array) → is_plain_to 0 (Arr array) ≡ false
shallow_array array =
    let deep : nat_le (depth_of (Arr array)) 0 ≡ false = rw (depth-Arr array) (grind (arith, nat_tests)) in
    ap (λ b. not (has_reference (Arr array)) && b) deep ∙ and_false _

-- one item more
pub all_more : (test : Value → Bool) (items : List Value) (at : ℕ) (item : Value) → at < length items
    → item ≡ get_or items at item
    → list_all test (take (at + 1) items) ≡ (list_all test (take at items) && test item)
all_more test items at item within is =
    list_all_more test items at item within ∙ ap (λ last. list_all test (take at items) && test last) (sym is)

-- an array whose items were all tried
pub plain_tried : (value : Value) (array : Array) (items : List Value) (depth at : ℕ) (plain : Bool)
    → value ≡ Arr array → items ≡ array.items
    → depth ≢ 0 → length items ≤ at → plain ≡ list_all (is_plain_to (depth - 1)) (take at items)
    → plain ≡ is_plain_to depth value
plain_tried value array items depth at plain is items_is some tried plain_is =
    let more : depth - 1 + 1 ≡ depth = omega arith in
    let all : take at items ≡ array.items = take_all at items tried ∙ items_is in
    plain_is
    ∙ (ap (list_all (is_plain_to (depth - 1))) all
    ∙ (sym (plain_array array (depth - 1))
    ∙ (ap (λ d. is_plain_to d (Arr array)) more ∙ ap (is_plain_to depth) (sym is))))

apart : (refers : Bool) (depth : ℕ) → IsTrue (not refers && nat_le depth 64) → (refers ≡ false) × (depth ≤ 64)
apart true depth is = absurd (cc)
apart false depth is = (refl, grind (arith, nat_tests))

joined : (refers : Bool) (depth : ℕ) → refers ≡ false → depth ≤ 64 → IsTrue (not refers && nat_le depth 64)
joined true depth free flat = absurd (cc)
joined false depth free flat = grind (arith, nat_tests)

-- what the test says
pub plain_from : (value : Value) → IsTrue (is_plain_to 64 value) → IsPlain value
plain_from value is =
    let parts = apart (has_reference value) (depth_of value) is in record { free = parts.0; flat = parts.1 }

-- and the other way round
pub plain_to : (value : Value) → IsPlain value → IsTrue (is_plain_to 64 value)
plain_to value plain = joined (has_reference value) (depth_of value) plain.free plain.flat

-- what the test of an array stands on
pub ruleset plain_arrays = (shallow_array, all_more, plain_tried)
