-- Places among the items of an array.
use Rattle.std.proofs.Common.{ℕ, ◌+◌, ◌*◌, ◌^◌, ◌-◌, ◌≡◌, ◌≤◌, ◌<◌, min, nat_lt, Bool, true, false, if◌then◌else◌}
use Rattle.std.proofs.Common.{refl, ap}
use Rattle.std.proofs.Common.{ℤ, pos, negsuc, Option, Some, None, ◌∙◌, inl, inr, arith, List, length, slice_get, get_or}
use Rattle.std.proofs.lemmas.Bool.{cases_lt}
use Rattle.std.proofs.lemmas.Bool.Decides.{nat_tests}
use Rattle.std.proofs.lemmas.Option.{slice_get_past, slice_get_read}
use Rattle.std.proofs.Math.Nat.{mul-le-mul_left, mul-le-mul_right}
use Rattle.vb_value.specs.declared.value.Value.{Value}
use Rattle.vb_value.specs.Sound.{places}
use Rattle.vb_heap.specs.Places as spec
use Rattle.vb_heap.specs.Saturated.{saturated, counted}

grows : (p m : ℕ) → 0 < p → m ≤ p * m
grows p m some = omega (arith, mul-le-mul_right {m = 1} {n = p} m (omega arith))

same : (i p r most : ℕ) → i < p → min (i + p * min r most) most ≡ min (i + p * r) most
same i p r most within = elim (cases_lt most r) [
  | inl above ↦
      let cut : min r most ≡ most = omega arith in
      let first : most ≤ p * most = grows p most (omega arith) in
      let second : p * most ≤ p * r = mul-le-mul_left p (omega arith) in
      rw cut (omega arith)
  | inr below ↦ let whole : min r most ≡ r = omega arith in rw whole refl
]

chosen : (test : Bool) (m n : ℕ) → (test ≡ true → min m (2 ^ 64 - 1) ≡ min n (2 ^ 64 - 1))
    → saturated (if test then Some m else None) ≡ saturated (if test then Some n else None)
chosen true m n alike = ap Some (alike refl)
chosen false m n alike = refl

-- the place of an item, where that without its first dimension may be too great to be counted
pub beside_saturated : (bound index : ℤ) (rest : Option ℕ)
    → saturated (spec.beside bound index (saturated rest)) ≡ saturated (spec.beside bound index rest)
beside_saturated bound (pos index) (Some rest) =
    chosen (nat_lt index (places bound)) (index + places bound * min rest (2 ^ 64 - 1)) (index + places bound * rest)
    (λ is. same index (places bound) rest (2 ^ 64 - 1) (grind (arith, nat_tests)))
beside_saturated bound (pos index) None = refl
beside_saturated bound (negsuc less) (Some rest) = refl
beside_saturated bound (negsuc less) None = refl

pub ruleset positions = (beside_saturated)

cut : (count at : ℕ) (b c : Bool) → count < 2 ^ 64 → b ≡ nat_lt (min at (2 ^ 64 - 1)) count → c ≡ nat_lt at count
    → (if b then Some (min at (2 ^ 64 - 1)) else None) ≡ (if c then Some at else None)
cut count at true true fits is also = ap Some (grind (arith, nat_tests))
cut count at false false fits is also = refl
cut count at true false fits is also = absurd (grind (arith, nat_tests))
cut count at false true fits is also = absurd (grind (arith, nat_tests))

-- a place that is too great to be counted is none of an item
pub counted_saturated : (count : ℕ) (place : Option ℕ) → count < 2 ^ 64
    → counted count (saturated place) ≡ counted count place
counted_saturated count (Some at) fits =
    cut count at (nat_lt (min at (2 ^ 64 - 1)) count) (nat_lt at count) fits refl refl
counted_saturated count None fits = refl

reached : (items : List Value) (place at : ℕ) (item : Value) (b : Bool) → b ≡ nat_lt place (length items)
    → Some at ≡ (if b then Some place else None) → item ≡ get_or items at item → slice_get items place ≡ Some item
reached items place at item true is found here =
    let same_place : at ≡ place = grind arith in
    let inside : place < length items = grind (arith, nat_tests) in
    slice_get_read items (length items) place item refl inside (here ∙ ap (λ n. get_or items n item) same_place)
reached items place at item false is found here = absurd (cc)

missed : (items : List Value) (place : ℕ) (b : Bool) → b ≡ nat_lt place (length items)
    → None ≡ (if b then Some place else None) → slice_get items place ≡ None
missed items place true is found = absurd (cc)
missed items place false is found = slice_get_past items place (grind (arith, nat_tests))

-- the item at a place that is there
pub item_there : (items : List Value) (place : Option ℕ) (at : ℕ) (item : Value)
    → Some at ≡ counted (length items) place → item ≡ get_or items at item → spec.item_at items place ≡ Some item
item_there items (Some place) at item found here =
    reached items place at item (nat_lt place (length items)) refl found here
item_there items None at item found here = absurd (cc)

-- no item at another place
pub no_item_there : (items : List Value) (place : Option ℕ) → None ≡ counted (length items) place
    → spec.item_at items place ≡ None
no_item_there items (Some place) found = missed items place (nat_lt place (length items)) refl found
no_item_there items None found = refl

pub ruleset items = (item_there, no_item_there)
