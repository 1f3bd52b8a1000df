-- The calls on objects: what each answers, and the data that it leaves where it is not refused.
use Rattle.std.specs.Prelude.{ℕ, zero, suc, ◌+◌, false, List, [], ◌∷◌, ◌++◌, map, slice_get}
use Rattle.std.specs.Prelude.{Option, Some, None, Result, Ok, Err}
use Rattle.vb_value.specs.declared.fault.VbError.{VbError}
use Rattle.vb_value.specs.declared.value.ObjNo.{ObjNo}
use Rattle.vb_value.specs.declared.value.Value.{Value, Empty}
use Rattle.vb_value.specs.Errors.{object_not_set, unsupported}
use Rattle.vb_heap.specs.declared.fault.HeapStop.{HeapStop}
use Rattle.vb_heap.specs.declared.object.Content.{Content}
use Rattle.vb_heap.specs.declared.object.Content.TheVariants.{Fields, Entries}
use Rattle.vb_heap.specs.declared.object.Object.{Object}
use Rattle.vb_heap.specs.declared.place.CellNo.{CellNo}
use Rattle.vb_heap.specs.Limits.{if_fits}
use Rattle.vb_heap.specs.Store.{Store}

-- so many cells from a number on
abbrev pub cells_from : ℕ → ℕ → List CellNo
cells_from first zero = []
cells_from first (suc count) = cells_from first count ++ (record { 0 = first + count }) ∷ []

-- cells by their numbers, each Empty
abbrev pub empty_cells : List CellNo → List (ℕ × Value)
empty_cells cells = map (λ cell. (cell.0, Empty)) cells

-- a live object
abbrev pub live : Content → Object
live content = record { content = content; ending = false }

-- an object more, which is live
abbrev pub with_object : Content → Store → Store
with_object content store = record store {
  objects = store.objects ++ (store.objects_made, live content) ∷ [];
  objects_made = store.objects_made + 1;
}

-- the cells of an object's fields, with as many more
abbrev pub with_fields : List CellNo → ℕ → Store → Store
with_fields cells fields store =
    record store { cells = store.cells ++ empty_cells cells; cells_made = store.cells_made + fields }

-- `new_object`: an object more, of this class, with so many fields, each of them Empty
abbrev pub with_new_object : ℕ → ℕ → Store → Store
with_new_object class fields store =
    with_object (Fields class (cells_from store.cells_made fields))
    (with_fields (cells_from store.cells_made fields) fields store)

-- its number
abbrev pub new_object_of : ℕ → ℕ → Store → Result ObjNo HeapStop
new_object_of class fields store =
    if_fits (with_new_object class fields store) (record { 0 = store.objects_made })

-- a field; an object has no other member
abbrev pub field_there : Option CellNo → Result CellNo VbError
field_there (Some cell) = Ok cell
field_there None = Err unsupported

-- a field of what an object consists of
abbrev pub field_in : ℕ → Content → Result CellNo VbError
field_in field (Fields class cells) = field_there (slice_get cells field)
field_in field (Entries dictionary) = Err unsupported

-- `field`: the cell of a field, counted from 0; Object variable not set where the object has ended
abbrev pub field_of : ℕ → Option Object → Result CellNo VbError
field_of field (Some object) = field_in field object.content
field_of field None = Err object_not_set

-- the class of what an object consists of, or none of a dictionary
abbrev pub class_in : Content → Option ℕ
class_in (Fields class cells) = Some class
class_in (Entries dictionary) = None

-- `class`: the class of an object, or none of a dictionary; Object variable not set where the object has ended
abbrev pub class_of : Option Object → Result (Option ℕ) VbError
class_of (Some object) = Ok (class_in object.content)
class_of None = Err object_not_set
