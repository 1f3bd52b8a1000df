-- Release points, and how objects end. An object is live, then ending, and then ended.
use Rattle.std.specs.Prelude.{ℕ, ◌==◌, Bool, true, false, not, ◌&&◌, if◌then◌else◌, List, [], ◌∷◌, Option, Some, None}
use Rattle.std.specs.Option.{option_map_or}
use Rattle.vb_heap.specs.declared.object.Content.{Content}
use Rattle.vb_heap.specs.declared.object.Content.TheVariants.{Fields, Entries}
use Rattle.vb_heap.specs.declared.object.Object.{Object}
use Rattle.vb_heap.specs.declared.place.CellNo.{CellNo}
use Rattle.vb_value.specs.declared.value.ObjNo.{ObjNo}
use Rattle.vb_value.specs.declared.value.Value.{Value}
use Rattle.vb_heap.specs.References.{references_to}
use Rattle.vb_heap.specs.Store.{Store, numbered, without, replaced}

-- the number of the oldest object that passes a test
abbrev pub oldest : (ℕ → Object → Bool) → List (ℕ × Object) → Option ℕ
oldest test [] = None
oldest test (first ∷ others) = if test first.0 first.1 then Some first.0 else oldest test others

-- whether an object is live and there is no reference to it
abbrev pub is_loose : Store → ℕ → Object → Bool
is_loose store number object = not object.ending && (references_to number store == 0)

-- the oldest live object without references
abbrev pub oldest_loose : Store → Option ℕ
oldest_loose store = oldest (is_loose store) store.objects

-- the oldest live object
abbrev pub oldest_live : Store → Option ℕ
oldest_live store = oldest (λ _ object. not object.ending) store.objects

-- an object that is ending
abbrev pub ending : Object → Object
ending object = record object { ending = true }

-- the objects with that one ending
abbrev pub objects_ending : ℕ → List (ℕ × Object) → List (ℕ × Object)
objects_ending number objects =
    option_map_or (λ object. replaced number (ending object) objects) (numbered number objects) objects

-- `release_point` and `last_point`: the object that is named, if one is, is ending
abbrev pub with_ending : Option ℕ → Store → Store
with_ending (Some number) store = record store { objects = objects_ending number store.objects }
with_ending None store = store

-- cells by their numbers without those
abbrev pub without_all : List CellNo → List (ℕ × Value) → List (ℕ × Value)
without_all [] cells = cells
without_all (gone ∷ others) cells = without_all others (without gone.0 cells)

-- the cells of the fields of what an object consists of
abbrev pub fields_of : Content → List CellNo
fields_of (Fields class cells) = cells
fields_of (Entries dictionary) = []

-- cells by their numbers without those of the fields of an object, if it is there
abbrev pub without_fields : Option Object → List (ℕ × Value) → List (ℕ × Value)
without_fields (Some object) cells = without_all (fields_of object.content) cells
without_fields None cells = cells

-- the data without an object, and without its fields or entries
abbrev pub without_object : ℕ → Option Object → Store → Store
without_object number found store = record store {
  cells = without_fields found store.cells;
  objects = without number store.objects;
}

-- whether an object is there and is ending
abbrev pub ends_now : Option Object → Bool
ends_now (Some object) = object.ending
ends_now None = false

-- `finish_object`: an ending object ends
abbrev pub finished : ℕ → Option Object → Store → Store
finished number found store = if ends_now found then without_object number found store else store

-- an object by its number
abbrev pub object_of : ℕ → ObjNo
object_of number = record { 0 = number }
