-- Pages whose cells refer to no object.
use Rattle.std.proofs.Common.{ℕ, suc, ◌+◌, ◌≡◌, List, [], ◌∷◌, Option, Some, None, Ok}
use Rattle.std.proofs.Common.{refl, ap, arith, cond, ℤ}
use Rattle.std.specs.Prelude.{count_by, nat_eq, nat_le, IsTrue}
use Rattle.std.proofs.lemmas.Bool.Decides.{nat_tests}
use Rattle.std.proofs.lemmas.List.Sums.{sum_by-cons}
use Rattle.vb_value.specs.declared.value.Value.{Value, Empty}
use Rattle.vb_value.specs.Errors.{and_then}
use Rattle.vb_heap.specs.declared.place.Place.{Place}
use Rattle.vb_heap.specs.Cells.{read_of, value_there}
use Rattle.vb_heap.specs.Counted.{AreRight, reaching}
use Rattle.vb_heap.specs.Places.{value_in}
use Rattle.vb_heap.specs.References.{RefersNowhere, all_references, references}
use Rattle.vb_heap.specs.Store.{Store, numbered}
use Rattle.vb_heap.proofs.Moves.{empty_refers, parts, value_moves, without_one}

one : (number : ℕ) → cond (nat_le 0 number) (suc 0) 0 ≡ suc 0
one number = grind (arith, nat_tests)

-- every number reaches 0
none_reach : (numbers : List ℕ) → reaching 0 numbers ≡ 0 → numbers ≡ []
none_reach [] none = refl
none_reach (first ∷ others) none =
    let all : reaching 0 (first ∷ others) ≡ cond (nat_le 0 first) 1 0 + reaching 0 others =
    sum_by-cons (λ number. cond (nat_le 0 number) 1 0) first others in
    absurd (omega (arith, all, one first, none))

pub is_none : (top : ℕ) → IsTrue (nat_eq top 0) → top ≡ 0
is_none top zero = grind (arith, nat_tests)

-- where no reference is to a number below which there is none
pub nowhere : (counts : List (ℕ × ℕ)) (top : ℕ) (store : Store) → AreRight counts top store → top ≡ 0
    → RefersNowhere store
nowhere counts top store right none = record {
  each = λ cell value is.
      let test = λ (number : ℕ). nat_le 0 number in
      let all = parts test store in
      let below = ap (λ low. reaching low (all_references store)) none in
      let cells = without_one test cell value store.cells is in
      none_reach (references value) (omega (arith, all, below, right.below, cells));
}

-- what is in a value that refers to nothing
inside : (steps : List (List ℤ)) (value part : Value) → value_in steps value ≡ Ok part → references value ≡ []
    → references part ≡ []
inside steps value part is none =
    let test = λ (number : ℕ). nat_le 0 number in
    let moved = value_moves test steps Empty value part is in
    none_reach (references part) (omega (arith, moved, ap (count_by test) none, empty_refers test))

-- what is read there refers to nothing
pub nothing_read : (store : Store) → RefersNowhere store → (place : Place) (value : Value)
    → read_of place store ≡ Ok value → references value ≡ []
nothing_read store nowhere place value is = by (numbered place.cell.0 store.cells) refl is
  where
    by : (found : Option Value) → numbered place.cell.0 store.cells ≡ found
        → and_then (value_there found) (value_in place.steps) ≡ Ok value → references value ≡ []
    by (Some whole) there is = inside place.steps whole value is (nowhere.each place.cell.0 whole there)
    by None there is = absurd (cc)
