-- The weight of cells.
use Rattle.std.proofs.Common.{◌≡◌, ℕ, ◌+◌, ◌≤◌, ◌-◌, ◌^◌, min, List, sum_by, Some, None, arith, Option, sym, ap, refl}
use Rattle.std.proofs.Common.{ℤ, Result, Ok, Err}
use Rattle.std.proofs.lemmas.Map.Entries.{sum_by-remove_entry, sum_by-set_value}
use Rattle.std.specs.Map.{values_of}
use Rattle.std.specs.Option.{option_map_or}
use Rattle.vb_value.specs.declared.fault.VbError.{VbError}
use Rattle.vb_value.specs.Errors.{and_then}
use Rattle.vb_value.specs.declared.value.Value.{Value}
use Rattle.vb_value.specs.Weight.{weight_of}
use Rattle.vb_heap.specs.Cells.{value_there}
use Rattle.vb_heap.specs.Places.{value_in, with_value}
use Rattle.vb_heap.specs.Saturated.{weight_told}
use Rattle.vb_heap.specs.Store.{is_number, numbered, without, replaced}
use Rattle.vb_heap.proofs.ValueWeights.{weight_with, part_within}

-- what a cell that was there weighed
pub was_there : (cells : List (ℕ × Value)) (number weight : ℕ) (value : Value) → Some value ≡ numbered number cells
    → sum_by weight_of (values_of cells) ≤ 16777216 → weight ≡ min (weight_of value) (2 ^ 64 - 1)
    → weight + sum_by weight_of (values_of (without number cells)) ≡ sum_by weight_of (values_of cells)
was_there cells number weight value is light weighed =
    let both = sum_by-remove_entry weight_of (is_number number) cells in
    let whole = rw (sym is) at both in
    omega arith

-- where no cell was
pub was_not_there : (cells : List (ℕ × Value)) (number : ℕ) → None ≡ numbered number cells
    → 0 + sum_by weight_of (values_of (without number cells)) ≡ sum_by weight_of (values_of cells)
was_not_there cells number is =
    let both = sum_by-remove_entry weight_of (is_number number) cells in
    let whole = rw (sym is) at both in
    omega arith

pub ruleset removed = (was_there, was_not_there)

-- a cell weighs no more than all cells
pub cell_within : (cells : List (ℕ × Value)) (number : ℕ) (value : Value) → Some value ≡ numbered number cells
    → weight_of value ≤ sum_by weight_of (values_of cells)
cell_within cells number value is =
    let both = sum_by-remove_entry weight_of (is_number number) cells in
    let whole = rw (sym is) at both in
    omega arith

in_value : (cells : List (ℕ × Value)) (number : ℕ) (steps : List (List ℤ)) (new value : Value)
    → Some value ≡ numbered number cells → (weight : ℕ) (old : Result Value VbError) → old ≡ value_in steps value
    → weight_told old ≡ Ok weight
    → sum_by weight_of (values_of (replaced number (with_value steps new value) cells)) + weight
    ≡ sum_by weight_of (values_of cells) + weight_of new
in_value cells number steps new value is weight (Ok old) there told =
    let weighs : weight_of old ≡ weight = cc in
    let inner = weight_with steps new value old (sym there) in
    let outer = sum_by-set_value weight_of (is_number number) cells value (with_value steps new value) (sym is) in
    omega arith
in_value cells number steps new value is weight (Err error) there told = absurd (cc)

in_cell : (cells : List (ℕ × Value)) (number : ℕ) (steps : List (List ℤ)) (new : Value) (cell : Option Value)
    → cell ≡ numbered number cells → (weight : ℕ)
    → weight_told (and_then (value_there cell) (value_in steps)) ≡ Ok weight
    → sum_by weight_of
    (values_of (option_map_or (λ value. replaced number (with_value steps new value) cells) cell cells))
    + weight ≡ sum_by weight_of (values_of cells) + weight_of new
in_cell cells number steps new (Some value) is weight told =
    in_value cells number steps new value is weight (value_in steps value) refl told
in_cell cells number steps new None is weight told = absurd (cc)

-- the weight of all cells after a value was put at a place
pub weight_put : (cells : List (ℕ × Value)) (number : ℕ) (steps : List (List ℤ)) (new : Value) (weight : ℕ)
    → weight_told (and_then (value_there (numbered number cells)) (value_in steps)) ≡ Ok weight
    → sum_by weight_of
    (values_of
    (option_map_or (λ value. replaced number (with_value steps new value) cells) (numbered number cells) cells))
    + weight ≡ sum_by weight_of (values_of cells) + weight_of new
weight_put cells number steps new weight told =
    in_cell cells number steps new (numbered number cells) refl weight told

-- what is told of the value at a place
pub told_there : (cells : List (ℕ × Value)) (number : ℕ) (steps : List (List ℤ)) (value old : Value) (weight : ℕ)
    → Some value ≡ numbered number cells → Ok old ≡ value_in steps value → weight ≡ min (weight_of old) (2 ^ 64 - 1)
    → sum_by weight_of (values_of cells) ≤ 16777216
    → (Ok weight ≡ weight_told (and_then (value_there (numbered number cells)) (value_in steps)))
    × (weight ≤ sum_by weight_of (values_of cells))
told_there cells number steps value old weight is there weighs light =
    let inner = part_within steps value old (sym there) in
    let outer = cell_within cells number value is in
    let exact : weight ≡ weight_of old = omega arith in
    (rw (sym is, sym there) (ap Ok exact), omega arith)
