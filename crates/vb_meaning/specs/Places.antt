-- Variables and elements of arrays as places that hold values (VBScript 5.6 language reference, "Variables" and
-- "Creating Array Variables").
use Rattle.std.specs.Prelude.{ℕ, ℤ, Bool, false, if◌then◌else◌, List, [], ◌∷◌, ◌++◌, length, slice_get}
use Rattle.std.specs.Prelude.{Option, Some, None, Result, Ok, Err}
use Rattle.vb_value.specs.declared.fault.VbError.{VbError}
use Rattle.vb_value.specs.declared.value.Array.{Array}
use Rattle.vb_value.specs.declared.value.Value.{Value, Empty, out-Value}
use Rattle.vb_value.specs.declared.value.Value.TheOpen.{Value-F}
use Rattle.vb_value.specs.Conversions.{to_long_of}
use Rattle.vb_value.specs.Errors.{type_mismatch, illegal_assignment, undefined_variable, and_then}
use Rattle.vb_syntax.specs.declared.program.name.Named.{Named}
use Rattle.vb_syntax.specs.declared.program.name.Named.TheVariants as named
use Rattle.vb_syntax.specs.declared.program.name.Slot.{Slot}
use Rattle.vb_syntax.specs.declared.program.name.Slot.TheVariants as slot
use Rattle.vb_heap.specs.declared.place.CellNo.{CellNo}
use Rattle.vb_heap.specs.declared.place.Place.{Place}
use Rattle.vb_heap.specs.Cells.{new_cell_of, with_new_cell, read_of, store_of, with_stored, without_cell}
use Rattle.vb_heap.specs.Held.{hold_of, with_held, let_go_to}
use Rattle.vb_heap.specs.Store.{Store}
use Rattle.vb_meaning.specs.World.{World}
use Rattle.vb_meaning.specs.Inner.{Owner}
use Rattle.vb_meaning.specs.State.{Does, on_store, with_store}
use Rattle.vb_meaning.specs.Step.{Returns, Run, ◌>>=◌, ◌>>◌, pure, given, fails}
use Rattle.vb_meaning.specs.Stored.{field_of}
use Rattle.vb_meaning.specs.Values.{copied}

-- ---- cells

-- a cell as a place
abbrev pub cell_place : CellNo → Place
cell_place cell = record { cell = cell; steps = [] }

-- a cell more, with this value
unfoldable pub new_cell : Value → Run World CellNo
new_cell value = on_store (new_cell_of value) (with_new_cell value)

-- the cells go, one after the other
abbrev pub cells_dropped : List CellNo → Store → Store
cells_dropped [] store = store
cells_dropped (cell ∷ cells) store = cells_dropped cells (without_cell cell store)

-- the values of cells go, one after the other: each holds Empty
abbrev pub cells_emptied : List CellNo → Store → Store
cells_emptied [] store = store
cells_emptied (cell ∷ cells) store = cells_emptied cells (with_stored (cell_place cell) Empty store)

-- ---- held values

-- The value is held to the end of the statement.
unfoldable pub hold : Value → Run World (Unit {0})
hold value = on_store (hold_of value) (with_held value)

-- A value that an expression yields is held, and given.
abbrev pub holding : Value → Run World Value
holding value = hold value >> pure value

-- how much is held
abbrev pub held_so_far : World → ℕ
held_so_far world = length world.store.held

-- What was held since then is held no more.
abbrev pub let_go : ℕ → World → World
let_go mark world = with_store (let_go_to mark) world

-- Something is done, and what it held is held no more; who is given its value holds that.
abbrev pub letting_go : {E A : Type 0} → Does E A → Does E A
letting_go run s =
    (run >>= (λ value t. Returns value (record t { world = let_go (held_so_far s.world) t.world }))) s

-- ---- variables

-- a variable that is there; for one that is not there is no declaration
abbrev pub place_there : Option Place → Result Place VbError
place_there (Some place) = Ok place
place_there None = Err undefined_variable

-- a cell that is there, as a place
abbrev pub cell_there : Option CellNo → Result Place VbError
cell_there (Some cell) = Ok (cell_place cell)
cell_there None = Err undefined_variable

-- a field of the object whose method runs
abbrev pub own_field : ℕ → Owner → Store → Result Place VbError
own_field field (Some (object, class)) store =
    and_then (field_of field object store) (λ cell. Ok (cell_place cell))
own_field field None store = Err undefined_variable

-- the place of a variable
abbrev pub slot_place : Slot → World → Result Place VbError
slot_place (slot.Page number) world = cell_there (slice_get world.page number)
slot_place (slot.Local number) world = place_there (slice_get world.frame.places number)
slot_place (slot.Field number) world = own_field number world.frame.owner world.store
slot_place slot.Result world = cell_there world.frame.result

-- the place of a variable, in the world
unfoldable pub variable : Slot → Run World Place
variable found world = given (slot_place found world) world

-- a name as what is assigned to: a variable; a name that nothing declares is undefined, and assigning to any other name
-- is Illegal assignment
abbrev pub target_variable : Named → Run World Place
target_variable (named.Place found) = variable found
target_variable named.Unknown = fails undefined_variable
target_variable _ = fails illegal_assignment

-- ---- elements

-- indices, each made Long, from left to right, behind those so far
abbrev pub indices_from : List ℤ → List Value → Result (List ℤ) VbError
indices_from done [] = Ok done
indices_from done (index ∷ indices) =
    and_then (to_long_of index) (λ number. indices_from (done ++ number ∷ []) indices)

-- indices, each made Long
abbrev pub indices_of : List Value → Result (List ℤ) VbError
indices_of indices = indices_from [] indices

-- the element at these indices of what a place holds
abbrev pub element_place : Place → List ℤ → Place
element_place place indices = record place { steps = place.steps ++ indices ∷ [] }

-- ---- values at places

-- what a place holds, as it is there
abbrev pub held_at : Place → Run World Value
held_at place world = given (read_of place world.store) world

-- a copy of what a place holds
unfoldable pub read_place : Place → Run World Value
read_place place = held_at place >>= (λ value. pure (copied value))

-- whether a value is an array that a declaration fixed
abbrev pub is_fixed_layer : Value-F Value Array → Bool
is_fixed_layer (Value-F.Arr array) = array.fixed
is_fixed_layer _ = false

abbrev pub is_fixed : Value → Bool
is_fixed value = is_fixed_layer (out-Value value)

-- a value into a place; a fixed array takes none, which is a Type mismatch
unfoldable pub store_place : Place → Value → Run World (Unit {0})
store_place place value = held_at place >>= (λ old.
    if is_fixed old then fails type_mismatch else on_store (store_of place value) (with_stored place value))
