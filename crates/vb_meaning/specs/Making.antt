-- `New`: an object of a class, whose fields are Empty or the arrays that are declared, and whose Class_Initialize has
-- run (VBScript 5.6 language reference, "Class Object").
use Rattle.std.specs.Prelude.{ℕ, ◌+◌, ℤ, List, [], ◌∷◌, Option, Some, None, length, slice_get}
use Rattle.std.specs.Option.{option_and_then}
use Rattle.vb_value.specs.declared.value.ObjNo.{ObjNo}
use Rattle.vb_value.specs.declared.value.Value.{Value, Obj}
use Rattle.vb_value.specs.Errors.{undefined_class}
use Rattle.vb_syntax.specs.declared.program.unit.Class.{Class}
use Rattle.vb_syntax.specs.declared.program.unit.Field.{Field}
use Rattle.vb_syntax.specs.declared.program.unit.Procedure.{Procedure}
use Rattle.vb_syntax.specs.declared.program.unit.Variable.{Variable}
use Rattle.vb_heap.specs.Cells.{store_of, with_stored}
use Rattle.vb_heap.specs.Objects.{new_object_of, with_new_object}
use Rattle.vb_meaning.specs.World.{World}
use Rattle.vb_meaning.specs.Errors.{in_line}
use Rattle.vb_meaning.specs.Inner.{Inner}
use Rattle.vb_meaning.specs.Objects.{class_at}
use Rattle.vb_meaning.specs.Places.{hold, letting_go, cell_place}
use Rattle.vb_meaning.specs.State.{Does, on_world, on_store}
use Rattle.vb_meaning.specs.Step.{Run, ◌>>=◌, ◌>>◌, pure, given, fails}
use Rattle.vb_meaning.specs.Stored.{field_of}
use Rattle.vb_meaning.specs.Values.{declared_array}

-- an array into the field that is declared as one
abbrev pub array_into : ObjNo → ℕ → List ℤ → Run World (Unit {0})
array_into object field bounds = (λ world. given (field_of field object world.store) world)
    >>= (λ cell. given (declared_array bounds) >>= (λ array.
    on_store (store_of (cell_place cell) array) (with_stored (cell_place cell) array)))

-- a field with the bounds that it is declared with, if it is an array
abbrev pub field_sized : ObjNo → ℕ → Option (List ℤ) → Run World (Unit {0})
field_sized object field (Some bounds) = array_into object field bounds
field_sized object field None = pure tt

-- a field as it is declared; a fault of its bounds is in the line of the declaration
abbrev pub field_made : ObjNo → ℕ → Variable → Run World (Unit {0})
field_made object field variable world = in_line variable.line (field_sized object field variable.bounds world)

-- the fields from a number on
abbrev pub fields_made : ObjNo → ℕ → List Field → Run World (Unit {0})
fields_made object number [] = pure tt
fields_made object number (field ∷ fields) =
    field_made object number field.variable >> fields_made object (number + 1) fields

module _ (E : Type 0) (m : Inner E) where
  -- Class_Initialize, if the class has one
  abbrev pub initialized : ObjNo → ℕ → Option Procedure → Does E Value
  initialized object number (Some procedure) = m.enter (Some (object, number)) procedure [] >> pure (Obj object)
  initialized object number None = pure (Obj object)

  -- an object of a class, held from the moment it is made until it is given
  abbrev pub made : ℕ → Class → Does E Value
  made number class = letting_go (on_world (on_store (new_object_of number (length class.fields))
      (with_new_object number (length class.fields)) >>= (λ object.
      hold (Obj object) >> fields_made object 0 class.fields >> pure object)) >>= (λ object.
      initialized object number (option_and_then (slice_get class.procedures) class.initialize)))

  -- an object of the class of this number; a class that the program lacks is not defined
  abbrev pub made_of : Option ℕ → Option Class → Does E Value
  made_of (Some number) (Some class) = made number class
  made_of _ _ = fails undefined_class

  unfoldable pub new_of : Option ℕ → Does E Value
  new_of number = made_of number (class_at m.program number)
