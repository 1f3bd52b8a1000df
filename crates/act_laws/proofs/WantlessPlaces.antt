-- Variables, elements, dictionaries and Err want no call, and keep the account of objects.
use Rattle.std.proofs.Common.{ℤ, List, [], ◌∷◌, Option, Some, None, Result, refl}
use Rattle.vb_value.specs.declared.fault.VbError.{VbError}
use Rattle.vb_value.specs.declared.value.ObjNo.{ObjNo}
use Rattle.vb_value.specs.declared.value.Value.{Value, Empty, Long, Str, Bool as Boolean}
use Rattle.vb_value.specs.Conversions.{to_long_of, to_str_of}
use Rattle.vb_value.specs.Errors.{type_mismatch, illegal_assignment, object_not_set, unsupported, wrong_number}
use Rattle.vb_value.specs.Errors.{undefined_variable, and_then}
use Rattle.vb_syntax.specs.declared.program.name.DictionaryMember.{DictionaryMember}
use Rattle.vb_syntax.specs.declared.program.name.DictionaryMember.TheVariants as word
use Rattle.vb_syntax.specs.declared.program.name.ErrMember.{ErrMember}
use Rattle.vb_syntax.specs.declared.program.name.ErrMember.TheVariants as err
use Rattle.vb_syntax.specs.declared.program.name.Named.{Named}
use Rattle.vb_syntax.specs.declared.program.name.Named.TheVariants as named
use Rattle.vb_syntax.specs.declared.program.name.Slot.{Slot}
use Rattle.vb_heap.specs.declared.place.Place.{Place}
use Rattle.vb_heap.specs.Cells.{new_cell_of, with_new_cell, read_of, store_of, with_stored}
use Rattle.vb_heap.specs.DictionaryCalls as dictionary
use Rattle.vb_heap.specs.Entries.{add_entry_of, emptied, entry_added, mode_set, with_entry, with_mode}
use Rattle.vb_heap.specs.Entries.{without_entries}
use Rattle.vb_heap.specs.Held.{hold_of, with_held}
use Rattle.vb_heap.specs.Places.{value_in}
use Rattle.vb_heap.specs.References.{references}
use Rattle.vb_heap.specs.Store.{Store}
use Rattle.vb_meaning.specs.declared.cause.Cause.TheVariants.{Raised as ByRaise}
use Rattle.vb_meaning.specs.declared.reached.Kind.{Kind}
use Rattle.vb_meaning.specs.declared.reached.Kind.TheVariants as kind
use Rattle.vb_meaning.specs.declared.reached.Reached.{Reached}
use Rattle.vb_meaning.specs.declared.reached.Reached.TheVariants.{Place as AtPlace, Value as AtValue}
use Rattle.vb_meaning.specs.Assigning.{put_in_object, store_in_place, store_in_value, store_element}
use Rattle.vb_meaning.specs.Dictionaries.{asking, has_items, item, item_by, put_item, put_by, set_mode, member}
use Rattle.vb_meaning.specs.Dictionaries.{named_member, set_member}
use Rattle.vb_meaning.specs.ErrObject.{raise_of, raise, err_value, set_err}
use Rattle.vb_meaning.specs.Paths.{item_in, element_in, element_at, element_of_place}
use Rattle.vb_meaning.specs.Paths.{element, hold_reached, reached_value, kind_of}
use Rattle.vb_meaning.specs.Places.{new_cell, hold, holding, variable, slot_place, target_variable, indices_of}
use Rattle.vb_meaning.specs.Places.{element_place, held_at, read_place, is_fixed, store_place}
use Rattle.vb_meaning.specs.Errors.{cleared, with_err}
use Rattle.vb_meaning.specs.Step.{given, pure}
use Rattle.vb_meaning.specs.Values.{copied}
use Rattle.act_laws.proofs.HeldData.{got_held, put_held, removed_held}
use Rattle.act_laws.proofs.Holding.{carried_still, held_same}
use Rattle.act_laws.proofs.Wantless.{Wantless, then_wantless, pure_wantless, fails_wantless, given_wantless}
use Rattle.act_laws.proofs.Roomy.{add_roomy, get_roomy, hold_roomy, mode_roomy, new_cell_roomy, put_roomy}
use Rattle.act_laws.proofs.Roomy.{remove_all_roomy, remove_roomy, store_roomy}
use Rattle.act_laws.proofs.Marks.{dictionary_still, got_still, put_still, removed_still}
use Rattle.act_laws.proofs.Wantless.{seeing_wantless, heap_wantless, choice_wantless, change_wantless, error_wantless}

-- ---- places

pub new_cell_wantless : (value : Value) → Wantless (new_cell value)
unfolding new_cell
new_cell_wantless value =
    heap_wantless (new_cell_of value) (with_new_cell value) (new_cell_roomy value) (λ store count. refl)
    (λ store. held_same store.held)

pub hold_wantless : (value : Value) → Wantless (hold value)
unfolding hold
hold_wantless value = heap_wantless (hold_of value) (with_held value) (hold_roomy value) (λ store count. refl)
    (λ store. (references value, refl))

pub holding_wantless : (value : Value) → Wantless (holding value)
holding_wantless value = then_wantless (hold_wantless value) (λ done. pure_wantless value)

pub variable_wantless : (found : Slot) → Wantless (variable found)
unfolding variable
variable_wantless found = seeing_wantless (λ world. given (slot_place found world))
    (λ world. given_wantless (slot_place found world))

pub target_wantless : (found : Named) → Wantless (target_variable found)
target_wantless (named.Place found) = variable_wantless found
target_wantless named.Unknown = fails_wantless undefined_variable
target_wantless _ = fails_wantless illegal_assignment

pub held_wantless : (place : Place) → Wantless (held_at place)
held_wantless place = seeing_wantless (λ world. given (read_of place world.store))
    (λ world. given_wantless (read_of place world.store))

pub read_wantless : (place : Place) → Wantless (read_place place)
unfolding read_place
read_wantless place = then_wantless (held_wantless place) (λ value. pure_wantless (copied value))

pub store_wantless : (place : Place) (value : Value) → Wantless (store_place place value)
unfolding store_place
store_wantless place value = then_wantless (held_wantless place) (λ old.
    choice_wantless (is_fixed old) (fails_wantless type_mismatch)
    (heap_wantless (store_of place value) (with_stored place value) (store_roomy place value) (λ store count. refl)
    (λ store. held_same store.held)))

-- ---- dictionaries

pub asking_wantless : {A : Type 0} (question : Store → Result A VbError) → Wantless (asking question)
asking_wantless question = seeing_wantless (λ world. given (question world.store))
    (λ world. given_wantless (question world.store))

pub item_wantless : (object : ObjNo) (key : Value) → Wantless (item object key)
unfolding item
item_wantless object key =
    heap_wantless (dictionary.get_of object key) (dictionary.with_got object key)
    (get_roomy object key) (got_still object key) (got_held object key)

pub item_by_wantless : (object : ObjNo) (keys : List Value) → Wantless (item_by object keys)
item_by_wantless object (key ∷ []) = item_wantless object key
item_by_wantless object _ = fails_wantless wrong_number

put_item_wantless : (object : ObjNo) (key value : Value) → Wantless (put_item object key value)
unfolding put_item
put_item_wantless object key value =
    heap_wantless (dictionary.put_of object key value) (dictionary.with_put object key value)
    (put_roomy object key value) (put_still object key value) (put_held object key value)

pub put_by_wantless : (object : ObjNo) (keys : List Value) (value : Value) → Wantless (put_by object keys value)
put_by_wantless object (key ∷ []) value = put_item_wantless object key value
put_by_wantless object _ value = fails_wantless wrong_number

set_mode_wantless : (object : ObjNo) (value : Value) → Wantless (set_mode object value)
set_mode_wantless object value = then_wantless (given_wantless (to_long_of value)) (λ mode.
    heap_wantless (dictionary.set_mode_of object mode) (with_mode object mode)
    (mode_roomy object mode) (dictionary_still (mode_set mode) object) (λ store. held_same store.held))

member_wantless : (object : ObjNo) (found : DictionaryMember) (arguments : List Value)
    → Wantless (member object found arguments)
unfolding member
member_wantless object word.Add (key ∷ value ∷ []) =
    then_wantless (heap_wantless (add_entry_of object key value) (with_entry object key value)
    (add_roomy object key value) (dictionary_still (entry_added key value) object) (λ store. held_same store.held))
    (λ done. pure_wantless Empty)
member_wantless object word.Item (key ∷ []) = item_wantless object key
member_wantless object word.Exists (key ∷ []) =
    then_wantless (asking_wantless (dictionary.exists_of object key)) (λ truth. pure_wantless (Boolean truth))
member_wantless object word.Remove (key ∷ []) =
    then_wantless (heap_wantless (dictionary.remove_of object key) (dictionary.with_removed object key)
    (remove_roomy object key) (removed_still object key) (removed_held object key))
    (λ done. pure_wantless Empty)
member_wantless object word.RemoveAll [] =
    then_wantless (heap_wantless (dictionary.remove_all_of object) (without_entries object)
    (remove_all_roomy object) (dictionary_still emptied object) (λ store. held_same store.held))
    (λ done. pure_wantless Empty)
member_wantless object word.Keys [] = asking_wantless (dictionary.keys_of object)
member_wantless object word.Items [] = asking_wantless (dictionary.items_of object)
member_wantless object word.Count [] =
    then_wantless (asking_wantless (dictionary.count_of object)) (λ count. pure_wantless (Long count))
member_wantless object word.CompareMode [] =
    then_wantless (asking_wantless (dictionary.compare_mode_of object)) (λ mode. pure_wantless (Long mode))
member_wantless object _ _ = fails_wantless wrong_number

pub named_member_wantless : (object : ObjNo) (found : Option DictionaryMember) (arguments : List Value)
    → Wantless (named_member object found arguments)
named_member_wantless object (Some found) arguments = member_wantless object found arguments
named_member_wantless object None arguments = fails_wantless unsupported

pub set_member_wantless : (object : ObjNo) (found : Option DictionaryMember) (arguments : List Value) (value : Value)
    → Wantless (set_member object found arguments value)
set_member_wantless object (Some word.Item) arguments value = put_by_wantless object arguments value
set_member_wantless object (Some word.CompareMode) [] value = set_mode_wantless object value
set_member_wantless object (Some word.CompareMode) _ value = fails_wantless wrong_number
set_member_wantless object _ arguments value = fails_wantless unsupported

-- ---- elements

item_in_wantless : (object : ObjNo) (keys : List Value) → Wantless (item_in object keys)
item_in_wantless object keys =
    then_wantless (asking_wantless (has_items object)) (λ done. item_by_wantless object keys)

element_in_wantless : (whole : Value) (indices : List Value) (found : Kind)
    → Wantless (element_in whole indices found)
element_in_wantless whole indices kind.Array =
    given_wantless (and_then (indices_of indices) (λ found. value_in (found ∷ []) whole))
element_in_wantless whole indices (kind.Object object) = item_in_wantless object indices
element_in_wantless whole indices kind.Nothing = fails_wantless object_not_set
element_in_wantless whole indices kind.Scalar = fails_wantless type_mismatch

element_at_wantless : (place : Place) (indices : List ℤ) → Wantless (element_at place indices)
element_at_wantless place indices = then_wantless (held_wantless (element_place place indices))
    (λ value. pure_wantless (AtPlace (element_place place indices)))

element_of_place_wantless : (place : Place) (indices : List Value) (found : Kind)
    → Wantless (element_of_place place indices found)
element_of_place_wantless place indices kind.Array =
    then_wantless (given_wantless (indices_of indices)) (element_at_wantless place)
element_of_place_wantless place indices (kind.Object object) =
    then_wantless (item_in_wantless object indices) (λ found. pure_wantless (AtValue (copied found)))
element_of_place_wantless place indices kind.Nothing = fails_wantless object_not_set
element_of_place_wantless place indices kind.Scalar = fails_wantless type_mismatch

pub element_wantless : (from : Reached) (indices : List Value) → Wantless (element from indices)
unfolding element
element_wantless (AtPlace place) indices = then_wantless (held_wantless place)
    (λ whole. element_of_place_wantless place indices (kind_of whole))
element_wantless (AtValue value) indices = then_wantless (element_in_wantless value indices (kind_of value))
    (λ found. pure_wantless (AtValue (copied found)))

pub reached_wantless : (from : Reached) → Wantless (reached_value from)
unfolding reached_value
reached_wantless (AtPlace place) = read_wantless place
reached_wantless (AtValue value) = pure_wantless value

pub hold_reached_wantless : (from : Reached) → Wantless (hold_reached from)
hold_reached_wantless (AtPlace place) = pure_wantless tt
hold_reached_wantless (AtValue value) = hold_wantless value

put_wantless : (object : ObjNo) (keys : List Value) (value : Value) → Wantless (put_in_object object keys value)
put_wantless object keys value =
    then_wantless (asking_wantless (has_items object)) (λ done. put_by_wantless object keys value)

store_in_place_wantless : (place : Place) (indices : List Value) (value : Value) (found : Kind)
    → Wantless (store_in_place place indices value found)
store_in_place_wantless place indices value kind.Array = then_wantless (given_wantless (indices_of indices))
    (λ found. store_wantless (element_place place found) value)
store_in_place_wantless place indices value (kind.Object object) = put_wantless object indices value
store_in_place_wantless place indices value kind.Nothing = fails_wantless object_not_set
store_in_place_wantless place indices value kind.Scalar = fails_wantless type_mismatch

store_in_value_wantless : (indices : List Value) (value : Value) (found : Kind)
    → Wantless (store_in_value indices value found)
store_in_value_wantless indices value (kind.Object object) = put_wantless object indices value
store_in_value_wantless indices value kind.Nothing = fails_wantless object_not_set
store_in_value_wantless indices value kind.Array = fails_wantless illegal_assignment
store_in_value_wantless indices value kind.Scalar = fails_wantless illegal_assignment

pub store_element_wantless : (from : Reached) (indices : List Value) (value : Value)
    → Wantless (store_element from indices value)
unfolding store_element
store_element_wantless (AtPlace place) indices value = then_wantless (held_wantless place)
    (λ whole. store_in_place_wantless place indices value (kind_of whole))
store_element_wantless (AtValue whole) indices value = store_in_value_wantless indices value (kind_of whole)

-- ---- Err

raise_wantless : {A : Type 0} (arguments : List Value) → Wantless (raise {A = A} arguments)
raise_wantless arguments =
    then_wantless (given_wantless (raise_of arguments)) (λ error. error_wantless (ByRaise error) None)

pub err_wantless : (found : ErrMember) (arguments : List Value) → Wantless (err_value found arguments)
unfolding err_value
err_wantless err.Number [] = seeing_wantless (λ world. pure (Long world.err.number))
    (λ world. pure_wantless (Long world.err.number))
err_wantless err.Description [] = seeing_wantless (λ world. pure (Str world.err.description))
    (λ world. pure_wantless (Str world.err.description))
err_wantless err.Source [] = seeing_wantless (λ world. pure (Str world.err.source))
    (λ world. pure_wantless (Str world.err.source))
err_wantless err.Clear [] = change_wantless Empty cleared (λ world. refl) carried_still
err_wantless err.Raise arguments = raise_wantless arguments
err_wantless err.Absent arguments = fails_wantless unsupported
err_wantless _ arguments = fails_wantless wrong_number

pub set_err_wantless : (found : ErrMember) (value : Value) → Wantless (set_err found value)
unfolding set_err
set_err_wantless err.Number value =
    then_wantless (given_wantless (to_long_of value)) (λ number.
    change_wantless tt (λ world. with_err (record world.err { number = number }) world) (λ world. refl) carried_still)
set_err_wantless err.Description value =
    then_wantless (given_wantless (to_str_of value)) (λ text.
    change_wantless tt (λ world. with_err (record world.err { description = text }) world) (λ world. refl) carried_still)
set_err_wantless err.Source value =
    then_wantless (given_wantless (to_str_of value)) (λ text.
    change_wantless tt (λ world. with_err (record world.err { source = text }) world) (λ world. refl) carried_still)
set_err_wantless _ value = fails_wantless unsupported
