-- Calls on the data of a page do not run out of memory.
use Rattle.std.proofs.Common.{ℕ, ℤ, Bool, true, false, if◌then◌else◌, Option, Some, None, is_some, Result, Ok, Err}
use Rattle.vb_value.specs.declared.fault.VbError.{VbError}
use Rattle.vb_value.specs.declared.limit.LimitKind.TheVariants.{Data, Nest}
use Rattle.vb_value.specs.declared.value.ObjNo.{ObjNo}
use Rattle.vb_value.specs.declared.value.Value.{Value, Empty}
use Rattle.vb_heap.specs.declared.fault.HeapStop.{HeapStop}
use Rattle.vb_heap.specs.declared.fault.HeapStop.TheVariants as heap
use Rattle.vb_heap.specs.declared.place.Place.{Place}
use Rattle.vb_heap.specs.Answers as answers
use Rattle.vb_heap.specs.Cells.{new_cell_of, read_of, store_of, with_new_cell, with_stored}
use Rattle.vb_heap.specs.DictionaryCalls as dictionary
use Rattle.vb_heap.specs.Entries as entries
use Rattle.vb_heap.specs.Held.{hold_of, with_held}
use Rattle.vb_heap.specs.Keys.{key_of}
use Rattle.vb_heap.specs.Limits.{fits, if_fits, if_fits_at, is_too_deep}
use Rattle.vb_heap.specs.Objects.{new_object_of, with_new_object}
use Rattle.vb_heap.specs.Store.{Store}

-- an answer, or a refusal for another reason than that memory ran out
abbrev pub IsRoomy : {A : Type 0} → Result A HeapStop → Type 0
IsRoomy (Ok value) = Unit {0}
IsRoomy (Err (heap.Error number)) = Unit {0}
IsRoomy (Err (heap.Limit kind)) = Unit {0}
IsRoomy (Err heap.Memory) = ⊥

fits_roomy : {A : Type 0} (store : Store) (answer : A) → IsRoomy (if_fits store answer)
fits_roomy {A} store answer = go (fits store)
  where
    go : (fit : Bool) → IsRoomy {A = A} (if fit then Ok answer else Err (heap.Limit Data))
    go true = tt
    go false = tt

fits_at_roomy : {A : Type 0} (depth : ℕ) (value : Value) (store : Store) (answer : A)
    → IsRoomy (if_fits_at depth value store answer)
fits_at_roomy {A} depth value store answer = go (is_too_deep depth value)
  where
    go : (deep : Bool) → IsRoomy {A = A} (if deep then Err (heap.Limit Nest) else if_fits store answer)
    go true = tt
    go false = fits_roomy store answer

then_roomy : {A B : Type 0} (found : Result A VbError) (next : A → Result B HeapStop)
    → ((value : A) → IsRoomy (next value)) → IsRoomy (answers.and_then found next)
then_roomy (Ok value) next roomy = roomy value
then_roomy (Err error) next roomy = tt

choice_roomy : {A : Type 0} (test : Bool) (first second : Result A HeapStop) → IsRoomy first → IsRoomy second
    → IsRoomy (if test then first else second)
choice_roomy true first second one other = one
choice_roomy false first second one other = other

-- ---- cells, objects and what is held

pub new_cell_roomy : (value : Value) (store : Store) → IsRoomy (new_cell_of value store)
new_cell_roomy value store = fits_at_roomy 0 value (with_new_cell value store) (record { 0 = store.cells_made })

pub store_roomy : (place : Place) (new : Value) (store : Store) → IsRoomy (store_of place new store)
store_roomy place new store =
    then_roomy (read_of place store) _ (λ _. fits_at_roomy _ new (with_stored place new store) tt)

pub hold_roomy : (value : Value) (store : Store) → IsRoomy (hold_of value store)
hold_roomy value store = fits_roomy (with_held value store) tt

pub object_roomy : (class fields : ℕ) (store : Store) → IsRoomy (new_object_of class fields store)
object_roomy class fields store =
    fits_roomy (with_new_object class fields store) (record { 0 = store.objects_made })

pub table_roomy : (store : Store) → IsRoomy (entries.new_table_of store)
table_roomy store = fits_roomy (entries.with_new_table store) (record { 0 = store.objects_made })

-- ---- dictionaries

pub add_roomy : (object : ObjNo) (key item : Value) (store : Store)
    → IsRoomy (entries.add_entry_of object key item store)
add_roomy object key item store = then_roomy (entries.dictionary_of object store) _ (λ found.
    then_roomy (entries.free_key (key_of found.mode key) found) _ (λ _.
    fits_at_roomy 0 item (entries.with_entry object key item store) tt))

item_roomy : (object : ObjNo) (key : Value) (at : Option ℕ) (store : Store)
    → IsRoomy (dictionary.item_at object key at store)
item_roomy object key (Some at) store = tt
item_roomy object key None store = fits_roomy (entries.with_entry object key Empty store) Empty

pub get_roomy : (object : ObjNo) (key : Value) (store : Store) → IsRoomy (dictionary.get_of object key store)
get_roomy object key store = then_roomy (dictionary.place_in object key store) _ (λ at. item_roomy object key at store)

pub put_roomy : (object : ObjNo) (key item : Value) (store : Store)
    → IsRoomy (dictionary.put_of object key item store)
put_roomy object key item store = then_roomy (dictionary.place_in object key store) _ (λ _.
    fits_at_roomy 0 item (dictionary.with_put object key item store) tt)

pub remove_roomy : (object : ObjNo) (key : Value) (store : Store) → IsRoomy (dictionary.remove_of object key store)
remove_roomy object key store =
    then_roomy (dictionary.place_in object key store) _ (λ at. choice_roomy (is_some at) _ _ tt tt)

pub remove_all_roomy : (object : ObjNo) (store : Store) → IsRoomy (dictionary.remove_all_of object store)
remove_all_roomy object store = then_roomy (entries.dictionary_of object store) _ (λ _. tt)

pub mode_roomy : (object : ObjNo) (mode : ℤ) (store : Store) → IsRoomy (dictionary.set_mode_of object mode store)
mode_roomy object mode store = then_roomy (entries.dictionary_of object store) _ (λ found.
    choice_roomy (dictionary.takes_mode mode found) _ _ tt tt)
