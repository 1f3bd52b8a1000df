-- Values that runs may share.
use Rattle.std.proofs.Common.{◌≡◌, ◌∙◌, ℕ, suc, zero, ◌+◌, ◌*◌, ◌-◌, ◌^◌, ◌≤◌, ◌<◌, min, nat_le, Bool, true, false, not}
use Rattle.std.proofs.Common.{◌&&◌, ◌==◌}
use Rattle.std.proofs.Common.{ℤ, IsTrue, List, [], ◌∷◌, take, get_or, map, length, refl, sym, ap, arith}
use Rattle.std.specs.List.{list_all}
use Rattle.std.specs.Prelude.{◌↔◌, int_le}
use Rattle.std.proofs.lemmas.Bool.{and_parts, leb-true}
use Rattle.std.proofs.lemmas.Bool.Decides.{nat_tests}
use Rattle.std.proofs.lemmas.Nat.{mul-le}
use Rattle.std.proofs.lemmas.Str.Ascii.{lowercase-lowercase}
use Rattle.vb_value.specs.Folding.{folded}
use Rattle.std.proofs.lemmas.List.{length-map}
use Rattle.std.proofs.lemmas.List.Folds.{list_all_more}
use Rattle.vb_value.specs.declared.value.Array.{Array}
use Rattle.vb_value.specs.declared.value.Value.{Value, Arr}
use Rattle.vb_value.specs.Plain.{IsPlain, has_reference, depth_of}
use Rattle.vb_value.specs.Sound.{IsSound, is_sound, array_sound, item_count, places, product}
use Rattle.vb_value.proofs.Soundness.{sound-Arr}
use Rattle.asp_job.specs.Calls.{IsShared}
use Rattle.asp_objects.specs.Choosing.{has_shape, is_bound, is_shared}

-- ---- names

-- a name that was folded is folded
pub folded_twice : (name : List ℕ) → folded (folded name) ≡ folded name
folded_twice [] = refl
folded_twice (c ∷ name) = λ i. lowercase-lowercase c i ∷ folded_twice name i

-- ---- how many items

at_least : (p n : ℕ) → 1 ≤ p → n ≤ p * n
at_least p n some =
    let product : 1 * n ≤ p * n = mul-le 1 n p n some (omega arith) in
    omega arith

more : (n most : ℕ) → most < n → (p : ℕ) → min (p * most) most ≡ min (p * n) most
more n most great p = by (nat_le 1 p) refl
  where
    by : (some : Bool) → nat_le 1 p ≡ some → min (p * most) most ≡ min (p * n) most
    by true is =
        let some : 1 ≤ p = grind (arith, nat_tests) in
        let one = at_least p most some in
        let other = at_least p n some in
        omega arith
    by false is =
        let none : p ≡ 0 = grind (arith, nat_tests) in rw none (omega arith)

within : (fits : Bool) (p n most : ℕ) → nat_le n most ≡ fits → min (p * min n most) most ≡ min (p * n) most
within true p n most is =
    let small : min n most ≡ n = grind (arith, nat_tests) in ap (λ m. min (p * m) most) small
within false p n most is =
    let great : most < n = grind (arith, nat_tests) in
    let large : min n most ≡ most = omega arith in
    ap (λ m. min (p * m) most) large ∙ more n most great p

-- a product with a number that is capped
pub capped_product : (bound : ℤ) (bounds : List ℤ) (most : ℕ)
    → min (places bound * min (product bounds) most) most ≡ min (product (bound ∷ bounds)) most
capped_product bound bounds most =
    within (nat_le (product bounds) most) (places bound) (product bounds) most refl

-- ---- arrays

all_same : (items : List Value) → list_all (λ sound. sound) (map is_sound items) ≡ list_all is_sound items
all_same [] = refl
all_same (item ∷ items) = ap (λ rest. is_sound item && rest) (all_same items)

-- one item more
pub all_more : (test : Value → Bool) (items : List Value) (at : ℕ) (item : Value) → at < length items
    → item ≡ get_or items at item
    → list_all test (take (at + 1) items) ≡ (list_all test (take at items) && test item)
all_more test items at item within is =
    list_all_more test items at item within ∙ ap (λ last. list_all test (take at items) && test last) (sym is)

grouped : (a b c d : Bool) → (a && b && c && d) ≡ (((a && b) && c) && d)
grouped true true c d = refl
grouped true false c d = refl
grouped false b c d = refl

-- an array is sound where it has its shape and its items are sound
pub sound_array : (array : Array) → is_sound (Arr array) ≡ (has_shape array && list_all is_sound array.items)
sound_array array =
    sound-Arr array
    ∙ ap (λ n. nat_le (length array.bounds) 60 && list_all is_bound array.bounds
    && (n == item_count array.bounds) && list_all (λ sound. sound) (map is_sound array.items)) (length-map array.items is_sound)
    ∙ ap (λ all. nat_le (length array.bounds) 60 && list_all is_bound array.bounds
    && (length array.items == item_count array.bounds) && all) (all_same array.items)
    ∙ grouped (nat_le (length array.bounds) 60) (list_all is_bound array.bounds)
    (length array.items == item_count array.bounds) (list_all is_sound array.items)

-- ---- plain and sound

apart : (r s : Bool) (d : ℕ) → ((not r && nat_le d 64) && s) ≡ true → (r ≡ false) × (d ≤ 64) × (s ≡ true)
apart true s d is = absurd (cc)
apart false s d is =
    let both : (nat_le d 64 ≡ true) × (s ≡ true) = and_parts (nat_le d 64) s is in
    (refl, leb-true d 64 both.0, both.1)

-- a value that passes the test may be shared
pub shared_may : (value : Value) → is_shared value ≡ true → IsShared value
shared_may value is =
    let parts = apart (has_reference value) (is_sound value) (depth_of value) is in
    (record { free = parts.0; flat = parts.1 }, parts.2)

-- what the test of plain values says
plain_from : (value : Value) → IsPlain value → (not (has_reference value) && nat_le (depth_of value) 64) ≡ true
plain_from value plain =
    let flat = plain.flat in
    let within : nat_le (depth_of value) 64 ≡ true = grind (arith, nat_tests) in rw (plain.free, within) refl

plain_to : (value : Value) → (refers : Bool) → has_reference value ≡ refers
    → (not refers && nat_le (depth_of value) 64) ≡ true → IsPlain value
plain_to value true free is = absurd (cc)
plain_to value false free is = record { free = free; flat = leb-true (depth_of value) 64 is }

pub plain_test : (value : Value) (plain : Bool) → (IsTrue plain ↔ IsPlain value)
    → plain ≡ (not (has_reference value) && nat_le (depth_of value) 64)
plain_test value plain is = by plain (not (has_reference value) && nat_le (depth_of value) 64) refl is
  where
    by : (one other : Bool) → (not (has_reference value) && nat_le (depth_of value) 64) ≡ other
        → (IsTrue one ↔ IsPlain value) → one ≡ other
    by true true other_is is = refl
    by false false other_is is = refl
    by true false other_is is = let yes = plain_from value (is.0 refl) in absurd (cc)
    by false true other_is is = let yes = is.1 (plain_to value (has_reference value) refl other_is) in absurd (cc)
