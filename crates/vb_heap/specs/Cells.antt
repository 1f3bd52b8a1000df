-- The calls on cells and places: what each answers, and the data that it leaves where it is not refused.
use Rattle.std.specs.Prelude.{◌+◌, ◌++◌, ◌∷◌, [], length, Option, Some, None, Result, Ok, Err}
use Rattle.std.specs.Option.{option_map_or}
use Rattle.vb_value.specs.declared.fault.VbError.{VbError}
use Rattle.vb_value.specs.declared.value.Value.{Value}
use Rattle.vb_value.specs.Errors.{object_not_set, and_then}
use Rattle.vb_heap.specs.declared.fault.HeapStop.{HeapStop}
use Rattle.vb_heap.specs.declared.place.CellNo.{CellNo}
use Rattle.vb_heap.specs.declared.place.Place.{Place}
use Rattle.vb_heap.specs.Answers as answers
use Rattle.vb_heap.specs.Limits.{if_fits_at}
use Rattle.vb_heap.specs.Places.{value_in, with_value}
use Rattle.vb_heap.specs.Store.{Store, numbered, without, replaced}

-- `new_cell`: a cell more, with this value
abbrev pub with_new_cell : Value → Store → Store
with_new_cell value store =
    record store { cells = store.cells ++ (store.cells_made, value) ∷ []; cells_made = store.cells_made + 1 }

-- its number; the limit Nest comes before the limit Data
abbrev pub new_cell_of : Value → Store → Result CellNo HeapStop
new_cell_of value store = if_fits_at 0 value (with_new_cell value store) (record { 0 = store.cells_made })

-- `drop_cell`: the cell is gone
abbrev pub without_cell : CellNo → Store → Store
without_cell cell store = record store { cells = without cell.0 store.cells }

-- what a cell holds; Object variable not set where it is gone, as a field is when its object has ended
abbrev pub value_there : Option Value → Result Value VbError
value_there (Some value) = Ok value
value_there None = Err object_not_set

-- `read`: the value at a place; Subscript out of range or a Type mismatch where there is no such place
abbrev pub read_of : Place → Store → Result Value VbError
read_of place store = and_then (value_there (numbered place.cell.0 store.cells)) (value_in place.steps)

-- `store`: the value at a place is another one
abbrev pub with_stored : Place → Value → Store → Store
with_stored place new store = record store {
  cells = option_map_or (λ value. replaced place.cell.0 (with_value place.steps new value) store.cells)
      (numbered place.cell.0 store.cells) store.cells;
}

-- it answers as reading there does, then the limit Nest, then the limit Data
abbrev pub store_of : Place → Value → Store → Result (Unit {0}) HeapStop
store_of place new store =
    answers.and_then (read_of place store) (λ _. if_fits_at (length place.steps) new (with_stored place new store) tt)
