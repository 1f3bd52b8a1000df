-- What the accesses of a path come to: elements of arrays and dictionaries, at places or in values (VBScript 5.6 language
-- reference, "Creating Array Variables").
use Rattle.std.specs.Prelude.{ℤ, List, [], ◌∷◌}
use Rattle.vb_value.specs.declared.value.Array.{Array}
use Rattle.vb_value.specs.declared.value.ObjNo.{ObjNo}
use Rattle.vb_value.specs.declared.value.Value.{Value, out-Value}
use Rattle.vb_value.specs.declared.value.Value.TheOpen.{Value-F}
use Rattle.vb_value.specs.Errors.{type_mismatch, object_not_set, and_then}
use Rattle.vb_heap.specs.declared.place.Place.{Place}
use Rattle.vb_heap.specs.Places.{value_in}
use Rattle.vb_meaning.specs.declared.reached.Kind.{Kind}
use Rattle.vb_meaning.specs.declared.reached.Kind.TheVariants as kind
use Rattle.vb_meaning.specs.declared.reached.Reached.{Reached}
use Rattle.vb_meaning.specs.declared.reached.Reached.TheVariants.{Place as AtPlace, Value as AtValue}
use Rattle.vb_meaning.specs.World.{World}
use Rattle.vb_meaning.specs.Dictionaries.{asking, has_items, item_by}
use Rattle.vb_meaning.specs.Places.{element_place, indices_of, held_at, hold, read_place}
use Rattle.vb_meaning.specs.Step.{Run, ◌>>=◌, ◌>>◌, pure, given, fails}
use Rattle.vb_meaning.specs.Values.{copied}

-- ---- elements

-- an item of an object, which has to be a dictionary
abbrev pub item_in : ObjNo → List Value → Run World Value
item_in object keys = asking (has_items object) >> item_by object keys

-- what a value is that is asked for an element, by what it is
abbrev pub kind_layer : Value-F Value Array → Kind
kind_layer (Value-F.Arr array) = kind.Array
kind_layer (Value-F.Obj object) = kind.Object object
kind_layer Value-F.Nothing = kind.Nothing
kind_layer _ = kind.Scalar

-- what a value is that is asked for an element
abbrev pub kind_of : Value → Kind
kind_of value = kind_layer (out-Value value)

-- an element of an array
abbrev pub array_element : Value → List Value → Run World Value
array_element whole indices = given (and_then (indices_of indices) (λ found. value_in (found ∷ []) whole))

-- an element of a value that is no place: of an array by its indices, of a dictionary by its key
abbrev pub element_in : Value → List Value → Kind → Run World Value
element_in whole indices kind.Array = array_element whole indices
element_in whole indices (kind.Object object) = item_in object indices
element_in whole indices kind.Nothing = fails object_not_set
element_in whole indices kind.Scalar = fails type_mismatch

-- the same, as what is reached
abbrev pub element_of_value : Value → List Value → Run World Reached
element_of_value value indices =
    element_in value indices (kind_of value) >>= (λ found. pure (AtValue (copied found)))

-- the element at these indices of what a place holds, if there is one there
abbrev pub element_at : Place → List ℤ → Run World Reached
element_at place indices = held_at (element_place place indices) >> pure (AtPlace (element_place place indices))

-- an element of what a place holds: of an array a place again, of a dictionary an item
abbrev pub element_of_place : Place → List Value → Kind → Run World Reached
element_of_place place indices kind.Array = given (indices_of indices) >>= element_at place
element_of_place place indices (kind.Object object) =
    item_in object indices >>= (λ found. pure (AtValue (copied found)))
element_of_place place indices kind.Nothing = fails object_not_set
element_of_place place indices kind.Scalar = fails type_mismatch

-- an element of what is reached
unfoldable pub element : Reached → List Value → Run World Reached
element (AtPlace place) indices = held_at place >>= (λ whole. element_of_place place indices (kind_of whole))
element (AtValue value) indices = element_of_value value indices

-- what is reached, before an index behind it is evaluated: a value is held, and a place stays where it is
abbrev pub hold_reached : Reached → Run World (Unit {0})
hold_reached (AtPlace place) = pure tt
hold_reached (AtValue value) = hold value

-- the value that is reached
unfoldable pub reached_value : Reached → Run World Value
reached_value (AtPlace place) = read_place place
reached_value (AtValue value) = pure value
