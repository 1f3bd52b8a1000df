-- Questions to the objects in the data of a page, by their numbers.
use Rattle.std.specs.Prelude.{ℕ, Option, Some, None, Result}
use Rattle.vb_value.specs.declared.fault.VbError.{VbError}
use Rattle.vb_value.specs.declared.value.ObjNo.{ObjNo}
use Rattle.vb_heap.specs.declared.object.Object.{Object}
use Rattle.vb_heap.specs.declared.place.CellNo.{CellNo}
use Rattle.vb_heap.specs.Objects as objects
use Rattle.vb_heap.specs.Releases as releases
use Rattle.vb_heap.specs.Store.{Store, numbered}

-- the class of an object, or none of a dictionary; Object variable not set where the object has ended
abbrev pub class_of : ObjNo → Store → Result (Option ℕ) VbError
class_of object store = objects.class_of (numbered object.0 store.objects)

-- the cell of a field of an object; Object variable not set where the object has ended
abbrev pub field_of : ℕ → ObjNo → Store → Result CellNo VbError
field_of field object store = objects.field_of field (numbered object.0 store.objects)

-- the number of the class of what is found under a number
abbrev pub class_found : Option Object → Option ℕ
class_found (Some object) = objects.class_in object.content
class_found None = None

-- the number of the class of an object, if it is there and has one
abbrev pub class_number : ℕ → Store → Option ℕ
class_number object store = class_found (numbered object store.objects)

-- the data once an object has ended that was ending
abbrev pub finished : ℕ → Store → Store
finished object store = releases.finished object (numbered object store.objects) store
