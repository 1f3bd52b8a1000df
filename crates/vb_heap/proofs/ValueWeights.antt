-- The weight of a value of which a part is changed.
use Rattle.std.proofs.Common.{◌≡◌, ℕ, ◌+◌, ◌≤◌, List, [], ◌∷◌, sum_by, get_or, slice_get, slice_set}
use Rattle.std.proofs.Common.{refl, sym, ap, ◌∙◌, arith, ℤ, Option, Some, None, Ok, inl, inr}
use Rattle.std.proofs.lemmas.List.Sums.{sum_by-set, sum-map}
use Rattle.std.proofs.lemmas.Option.{get_or_from_slice_get, slice_get_cases}
use Rattle.vb_value.specs.declared.value.Array.{Array}
use Rattle.vb_value.specs.declared.value.Value.{Value, Empty, out-Value, roll-Value, roll-out-Value}
use Rattle.vb_value.specs.declared.value.Value.TheOpen.{Value-F}
use Rattle.vb_value.specs.declared.value.Value.TheViews.{Arr, rolls-Arr, rolls-Empty}
use Rattle.vb_value.specs.declared.value.Value.TheFolds.{fold-roll-Value}
use Rattle.vb_value.specs.Errors.{and_then}
use Rattle.vb_value.specs.Weight.{weight_of, value_weight, array_weight}
use Rattle.vb_heap.specs.Places.{value_in, with_value, item_of, item_changed, item_at, in_range, position}
use Rattle.vb_heap.specs.Places.{array_changed, items_changed}
use Rattle.vb_heap.proofs.Values.{fold-Arr}

-- the weight of an array
pub weight_arr : (array : Array) → weight_of (Arr array) ≡ 32 + sum_by weight_of array.items
weight_arr array =
    fold-Arr ℕ ℕ value_weight array_weight array ∙ ap (λ n. 32 + n) (sum-map weight_of array.items)

-- what a value weighs with another one at a place in it, where there is a value
Exact : List (List ℤ) → Value → Type 0
Exact steps new = (value old : Value) → value_in steps value ≡ Ok old
    → weight_of (with_value steps new value) + weight_of old ≡ weight_of value + weight_of new

item_weight : (change : Value → Value) (items : List Value) (at : ℕ) (item : Value) → Some item ≡ slice_get items at
    → sum_by weight_of (slice_set items at (change item)) + weight_of item
    ≡ sum_by weight_of items + weight_of (change item)
item_weight change items at item there = elim ((slice_get_cases items at).1) [
  | inl here ↦
      let is : get_or items at item ≡ item = get_or_from_slice_get items at item item (sym there) in
      let swapped = sum_by-set weight_of items at (change item) item here.1 in
      rw is at swapped
  | inr past ↦ absurd (cc)
]

at_item : (steps : List (List ℤ)) (new : Value) → Exact steps new → (array : Array) (at : ℕ) (found : Option Value)
    → found ≡ slice_get array.items at → (old : Value) → and_then (in_range found) (value_in steps) ≡ Ok old
    → weight_of (Arr (record array { items = items_changed (with_value steps new) array.items at found }))
    + weight_of old ≡ weight_of (Arr array) + weight_of new
unfolding Exact
at_item steps new exact array at (Some item) there old is =
    let inner = exact item old is in
    let outer = item_weight (with_value steps new) array.items at item there in
    let before = weight_arr array in
    let after = weight_arr (record array { items = slice_set array.items at (with_value steps new item) }) in
    rw (before, after) (omega arith)
at_item steps new exact array at None there old is = absurd (cc)

in_array : (steps : List (List ℤ)) (new : Value) → Exact steps new → (array : Array) (place : Option ℕ) (old : Value)
    → and_then (in_range (item_at array.items place)) (value_in steps) ≡ Ok old
    → weight_of (Arr (array_changed (with_value steps new) array place)) + weight_of old
    ≡ weight_of (Arr array) + weight_of new
in_array steps new exact array (Some at) old is =
    at_item steps new exact array at (slice_get array.items at) refl old is
in_array steps new exact array None old is = absurd (cc)

in_part : (steps : List (List ℤ)) (new : Value) → Exact steps new → (indices : List ℤ) (value old : Value)
    → (part : Value-F Value Array) → roll-Value part ≡ value
    → and_then (item_of indices part) (value_in steps) ≡ Ok old
    → weight_of (item_changed (with_value steps new) indices value part) + weight_of old
    ≡ weight_of value + weight_of new
in_part steps new exact indices value old (Value-F.Arr array) rolled is =
    let whole : Arr array ≡ value = sym (rolls-Arr array) ∙ rolled in
    rw (sym whole) (in_array steps new exact array (position array.bounds indices) old is)
in_part steps new exact indices value old _ rolled is = absurd (cc)

exact : (steps : List (List ℤ)) (new : Value) → Exact steps new
unfolding Exact
exact [] new value old is = let same : value ≡ old = cc in rw same (omega arith)
exact (indices ∷ steps) new value old is =
    in_part steps new (exact steps new) indices value old (out-Value value) (roll-out-Value value) is

-- what a value weighs with another one at a place in it
pub weight_with : (steps : List (List ℤ)) (new value old : Value) → value_in steps value ≡ Ok old
    → weight_of (with_value steps new value) + weight_of old ≡ weight_of value + weight_of new
unfolding Exact
weight_with steps new value old is = exact steps new value old is

part_weight : (part : Value-F Value Array) → 32 ≤ weight_of (roll-Value part)
part_weight Value-F.Empty = rw (fold-roll-Value ℕ ℕ value_weight array_weight Value-F.Empty) (omega arith)
part_weight Value-F.Null = rw (fold-roll-Value ℕ ℕ value_weight array_weight Value-F.Null) (omega arith)
part_weight (Value-F.Bool truth) = rw (fold-roll-Value ℕ ℕ value_weight array_weight (Value-F.Bool truth)) (omega arith)
part_weight (Value-F.Int n) = rw (fold-roll-Value ℕ ℕ value_weight array_weight (Value-F.Int n)) (omega arith)
part_weight (Value-F.Long n) = rw (fold-roll-Value ℕ ℕ value_weight array_weight (Value-F.Long n)) (omega arith)
part_weight (Value-F.Cur n) = rw (fold-roll-Value ℕ ℕ value_weight array_weight (Value-F.Cur n)) (omega arith)
part_weight (Value-F.Str text) = rw (fold-roll-Value ℕ ℕ value_weight array_weight (Value-F.Str text)) (omega arith)
part_weight (Value-F.Arr array) = rw (rolls-Arr array) (rw (weight_arr array) (omega arith))
part_weight (Value-F.Obj object) = rw (fold-roll-Value ℕ ℕ value_weight array_weight (Value-F.Obj object)) (omega arith)
part_weight Value-F.Nothing = rw (fold-roll-Value ℕ ℕ value_weight array_weight Value-F.Nothing) (omega arith)

-- no value weighs less than 32
pub least_weight : (value : Value) → 32 ≤ weight_of value
least_weight value = rw (sym (roll-out-Value value)) (part_weight (out-Value value))

-- what Empty weighs
pub empty_weight : weight_of Empty ≡ 32
empty_weight = ap weight_of (sym rolls-Empty) ∙ fold-roll-Value ℕ ℕ value_weight array_weight Value-F.Empty

-- a part weighs no more than the whole
pub part_within : (steps : List (List ℤ)) (value old : Value) → value_in steps value ≡ Ok old
    → weight_of old ≤ weight_of value
part_within steps value old is =
    let swapped = weight_with steps Empty value old is in
    let least = least_weight (with_value steps Empty value) in
    let empty = empty_weight in
    omega arith
