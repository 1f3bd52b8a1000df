-- Items of an array, and the indices that name them.
use Rattle.std.proofs.Common.{ℕ, zero, suc, ◌+◌, ◌*◌, ◌/◌, ◌%◌, ◌≡◌, ◌≢◌, ◌<◌, nat_lt, Bool, true, false, if◌then◌else◌}
use Rattle.std.proofs.Common.{ℤ, pos, negsuc, List, [], ◌∷◌, slice_get, slice_set, Option, Some, None}
use Rattle.std.proofs.Common.{refl, sym, ap, ◌∙◌, arith, mul_comm}
use Rattle.std.proofs.lemmas.Bool.Decides.{nat_tests}
use Rattle.std.proofs.lemmas.Nat.{div-mul-add, mod-mul-add}
use Rattle.vb_value.specs.declared.value.Value.{Value}
use Rattle.vb_value.specs.Sound.{places}
use Rattle.vb_heap.specs.Places.{beside, position}

-- the item that was set
pub set_there : (items : List Value) (at : ℕ) (item new : Value) → slice_get items at ≡ Some item
    → slice_get (slice_set items at new) at ≡ Some new
set_there [] at item new is = absurd (cc)
set_there (first ∷ items) zero item new is = refl
set_there (first ∷ items) (suc at) item new is = set_there items at item new is

-- another item
pub set_elsewhere : (items : List Value) (at other : ℕ) (new : Value) → at ≢ other
    → slice_get (slice_set items at new) other ≡ slice_get items other
set_elsewhere [] at other new apart = refl
set_elsewhere (first ∷ items) zero zero new apart = absurd (apart refl)
set_elsewhere (first ∷ items) zero (suc other) new apart = refl
set_elsewhere (first ∷ items) (suc at) zero new apart = refl
set_elsewhere (first ∷ items) (suc at) (suc other) new apart =
    set_elsewhere items at other new (λ same. apart (ap suc same))

one_place : (i j count rest more : ℕ) → i < count → j < count → i + count * rest ≡ j + count * more
    → (i ≡ j) × (rest ≡ more)
one_place i j count rest more first second same =
    let turned : rest * count + i ≡ more * count + j =
    omega (arith, mul_comm count rest, mul_comm count more, same) in (
      sym (mod-mul-add rest count i first) ∙ ap (λ n. n % count) turned ∙ mod-mul-add more count j second,
      sym (div-mul-add rest count i first) ∙ ap (λ n. n / count) turned ∙ div-mul-add more count j second,
    )

both_within : (count index other rest more at : ℕ) (b c : Bool) → b ≡ nat_lt index count → c ≡ nat_lt other count
    → (if b then Some (index + count * rest) else None) ≡ Some at
    → (if c then Some (other + count * more) else None) ≡ Some at → (index ≡ other) × (rest ≡ more)
both_within count index other rest more at true true first second is also =
    let same : index + count * rest ≡ other + count * more = cc in
    one_place index other count rest more (grind (arith, nat_tests)) (grind (arith, nat_tests)) same
both_within count index other rest more at true false first second is also = absurd (cc)
both_within count index other rest more at false true first second is also = absurd (cc)
both_within count index other rest more at false false first second is also = absurd (cc)

one_beside : (bound : ℤ) (index other : ℤ) (rest more : Option ℕ) (at : ℕ) → beside bound index rest ≡ Some at
    → beside bound other more ≡ Some at → (index ≡ other) × (rest ≡ more)
one_beside bound (pos index) (pos other) (Some rest) (Some more) at is also =
    let both = both_within (places bound) index other rest more at (nat_lt index (places bound))
    (nat_lt other (places bound)) refl refl is also in
    (ap pos both.0, ap Some both.1)
one_beside bound _ _ _ _ at is also = absurd (cc)

beside_none : (bound index : ℤ) (at : ℕ) → beside bound index None ≡ Some at → ⊥
beside_none bound (pos index) at is = cc
beside_none bound (negsuc index) at is = cc

mutual_item : (bound : ℤ) (bounds : List ℤ) (index other : ℤ) (indices others : List ℤ) (at : ℕ)
    (rest more : Option ℕ) → position bounds indices ≡ rest → position bounds others ≡ more
    → beside bound index rest ≡ Some at → beside bound other more ≡ Some at
    → ((deeper : ℕ) → position bounds indices ≡ Some deeper → position bounds others ≡ Some deeper → indices ≡ others)
    → index ∷ indices ≡ other ∷ others
mutual_item bound bounds index other indices others at (Some rest) more here there is also deeper =
    let both = one_beside bound index other (Some rest) more at is also in
    let alike : indices ≡ others = deeper rest here (there ∙ sym both.1) in
    let first : index ≡ other = both.0 in
    cc
mutual_item bound bounds index other indices others at None more here there is also deeper =
    absurd (beside_none bound index at is)

-- indices that name one item are the same
pub one_item : (bounds indices others : List ℤ) (at : ℕ) → position bounds indices ≡ Some at
    → position bounds others ≡ Some at → indices ≡ others
one_item [] [] [] at is also = refl
one_item [] (index ∷ indices) others at is also = absurd (cc)
one_item [] [] (other ∷ others) at is also = absurd (cc)
one_item (bound ∷ bounds) [] others at is also = absurd (cc)
one_item (bound ∷ bounds) (index ∷ indices) [] at is also = absurd (cc)
one_item (bound ∷ bounds) (index ∷ indices) (other ∷ others) at is also =
    mutual_item bound bounds index other indices others at (position bounds indices) (position bounds others) refl refl
    is also (one_item bounds indices others)
