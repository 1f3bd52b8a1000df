-- Places in a value: the value itself, or an element of an array at any depth (VBScript 5.6, "Creating Array
-- Variables"). The items of an array stand in one list, the first index changing fastest.
use Rattle.std.specs.Prelude.{ℕ, ◌+◌, ◌*◌, nat_lt, if◌then◌else◌, ℤ, pos, List, [], ◌∷◌, Option, Some, None}
use Rattle.std.specs.Prelude.{Result, Ok, Err, slice_get, slice_set}
use Rattle.vb_value.specs.declared.fault.VbError.{VbError}
use Rattle.vb_value.specs.declared.value.Array.{Array}
use Rattle.vb_value.specs.declared.value.Value.{Value, out-Value}
use Rattle.vb_value.specs.declared.value.Value.TheOpen.{Value-F}
use Rattle.vb_value.specs.declared.value.Value.TheViews.{Arr}
use Rattle.vb_value.specs.Errors.{out_of_range, type_mismatch, and_then}
use Rattle.vb_value.specs.Sound.{places}

-- where an item stands, by its first index and by where it would stand if that dimension were away
abbrev pub beside : ℤ → ℤ → Option ℕ → Option ℕ
beside bound (pos index) (Some rest) =
    if nat_lt index (places bound) then Some (index + places bound * rest) else None
beside bound _ _ = None

-- where the item at some indices stands in an array of these bounds; nowhere if an index lies outside its
-- dimension, or there are not as many indices as dimensions
abbrev pub position : List ℤ → List ℤ → Option ℕ
position [] [] = Some 0
position (bound ∷ bounds) (index ∷ indices) = beside bound index (position bounds indices)
position _ _ = None

-- the item that stands somewhere among these
abbrev pub item_at : List Value → Option ℕ → Option Value
item_at items (Some at) = slice_get items at
item_at items None = None

-- an item; Subscript out of range where there is none
abbrev pub in_range : Option Value → Result Value VbError
in_range (Some item) = Ok item
in_range None = Err out_of_range

-- the item at some indices of a value; a Type mismatch where that is no array
abbrev pub item_of : List ℤ → Value-F Value Array → Result Value VbError
item_of indices (Value-F.Arr array) = in_range (item_at array.items (position array.bounds indices))
item_of indices _ = Err type_mismatch

-- the value at a place in a value
abbrev pub value_in : List (List ℤ) → Value → Result Value VbError
value_in [] value = Ok value
value_in (indices ∷ steps) value = and_then (item_of indices (out-Value value)) (value_in steps)

-- items of which the one that stands somewhere is changed, if it is there
abbrev pub items_changed : (Value → Value) → List Value → ℕ → Option Value → List Value
items_changed change items at (Some item) = slice_set items at (change item)
items_changed change items at None = items

-- the same of an array
abbrev pub array_changed : (Value → Value) → Array → Option ℕ → Array
array_changed change array (Some at) =
    record array { items = items_changed change array.items at (slice_get array.items at) }
array_changed change array None = array

-- a value with its item at some indices changed; the value itself where there is no such item
abbrev pub item_changed : (Value → Value) → List ℤ → Value → Value-F Value Array → Value
item_changed change indices value (Value-F.Arr array) =
    Arr (array_changed change array (position array.bounds indices))
item_changed change indices value _ = value

-- a value with another one at a place in it; the value itself where there is no such place
abbrev pub with_value : List (List ℤ) → Value → Value → Value
with_value [] new value = new
with_value (indices ∷ steps) new value = item_changed (with_value steps new) indices value (out-Value value)
