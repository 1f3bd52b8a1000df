-- A cell in which an error keeps a value from being stored is gone already.
use Rattle.std.proofs.Common.{◌≡◌, ℕ, ℤ, Bool, true, false, if◌then◌else◌, List, [], Option, Some, None, Result, Ok, Err}
use Rattle.std.proofs.Common.{refl, ap}
use Rattle.std.specs.Option.{option_map_or}
use Rattle.vb_value.specs.declared.limit.LimitKind.TheVariants.{Data, Nest}
use Rattle.vb_value.specs.declared.value.Value.{Value}
use Rattle.vb_value.specs.Errors.{and_then}
use Rattle.vb_heap.specs.declared.fault.HeapStop.{HeapStop}
use Rattle.vb_heap.specs.declared.fault.HeapStop.TheVariants.{Error, Limit}
use Rattle.vb_heap.specs.declared.place.CellNo.{CellNo}
use Rattle.vb_heap.specs.Answers as answers
use Rattle.vb_heap.specs.Cells.{store_of, value_there, with_stored}
use Rattle.vb_heap.specs.Limits.{fits, if_fits_at, is_too_deep}
use Rattle.vb_heap.specs.Places.{value_in, with_value}
use Rattle.vb_heap.specs.Store.{Store, numbered, replaced}
use Rattle.vb_meaning.specs.Places.{cell_place}

-- what is answered where so deep a value comes, and where it fits
abbrev answered : Bool → Bool → Result (Unit {0}) HeapStop
answered deep fitting = if deep then Err (Limit Nest) else if fitting then Ok tt else Err (Limit Data)

-- a limit is no error
no_error : (cells changed : List (ℕ × Value)) (deep fitting : Bool) (number : ℤ)
    → answered deep fitting ≡ Err (Error number) → changed ≡ cells
no_error cells changed true fitting number refused = absurd (cc)
no_error cells changed false true number refused = absurd (cc)
no_error cells changed false false number refused = absurd (cc)

-- what is answered where a cell holds this
abbrev stored_in : CellNo → Value → Store → Option Value → Result (Unit {0}) HeapStop
stored_in cell value store found = answers.and_then (and_then (value_there found) (value_in []))
    (λ old. if_fits_at 0 value (with_stored (cell_place cell) value store) tt)

gone_cells : (cell : CellNo) (value : Value) (store : Store) (number : ℤ) (found : Option Value)
    → stored_in cell value store found ≡ Err (Error number)
    → option_map_or (λ (old : Value). replaced cell.0 (with_value [] value old) store.cells) found store.cells
    ≡ store.cells
gone_cells cell value store number None refused = refl
gone_cells cell value store number (Some old) refused =
    no_error store.cells (replaced cell.0 (with_value [] value old) store.cells) (is_too_deep 0 value)
    (fits (with_stored (cell_place cell) value store)) number refused

pub gone_already : (cell : CellNo) (value : Value) (store : Store) (number : ℤ)
    → store_of (cell_place cell) value store ≡ Err (Error number)
    → with_stored (cell_place cell) value store ≡ store
gone_already cell value store number refused = ap (λ (cells : List (ℕ × Value)). record store { cells = cells })
    (gone_cells cell value store number (numbered cell.0 store.cells) refused)
