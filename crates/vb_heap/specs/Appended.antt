-- Texts that grow where they lie.
use Rattle.std.specs.Prelude.{ℕ, List, [], ◌++◌, Result, Ok, Err}
use Rattle.vb_value.specs.declared.fault.VbError.{VbError}
use Rattle.vb_value.specs.declared.value.Value.{Value, Str}
use Rattle.vb_value.specs.Errors.{type_mismatch, and_then}
use Rattle.vb_heap.specs.declared.fault.HeapStop.{HeapStop}
use Rattle.vb_heap.specs.declared.place.CellNo.{CellNo}
use Rattle.vb_heap.specs.declared.place.Place.{Place}
use Rattle.vb_heap.specs.Answers as answers
use Rattle.vb_heap.specs.Cells.{read_of, store_of, with_stored}
use Rattle.vb_heap.specs.Store.{Store}

-- a cell as a place
abbrev pub of_cell : CellNo → Place
of_cell cell = record { cell = cell; steps = [] }

-- the text that a value is; a Type mismatch for any other
abbrev pub text_in : Value → Result (List ℕ) VbError
text_in (Str text) = Ok text
text_in _ = Err type_mismatch

-- the text that a cell holds
abbrev pub text_at : CellNo → Store → Result (List ℕ) VbError
text_at cell store = and_then (read_of (of_cell cell) store) text_in

-- `append`: it answers as reading the text does, and then as storing the longer one does
abbrev pub append_of : CellNo → List ℕ → Store → Result (Unit {0}) HeapStop
append_of cell more store =
    answers.and_then (text_at cell store) (λ text. store_of (of_cell cell) (Str (text ++ more)) store)

-- the data with a longer text in a cell, if a text was there
abbrev pub lengthened : CellNo → List ℕ → Result (List ℕ) VbError → Store → Store
lengthened cell more (Ok text) store = with_stored (of_cell cell) (Str (text ++ more)) store
lengthened cell more (Err error) store = store

-- it leaves these data
abbrev pub with_appended : CellNo → List ℕ → Store → Store
with_appended cell more store = lengthened cell more (text_at cell store) store
