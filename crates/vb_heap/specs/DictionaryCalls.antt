-- The calls of a dictionary (Scripting.Dictionary): what each answers, and the data that it leaves where it is
-- not refused. Each answers first for the object, then for the key, and then for the limits Nest and Data.
use Rattle.std.specs.Prelude.{ℕ, Bool, false, ◌&&◌, ◌||◌, ◌==◌, if◌then◌else◌, ℤ, pos, ◌-ℤ◌, List, [], ◌∷◌, length, map}
use Rattle.std.specs.Prelude.{Option, Some, None, is_some, Result, Ok, Err}
use Rattle.std.specs.Ordering.{int_eq}
use Rattle.vb_value.specs.declared.fault.VbError.{VbError}
use Rattle.vb_value.specs.declared.session.Pair.{Pair}
use Rattle.vb_value.specs.declared.value.ObjNo.{ObjNo}
use Rattle.vb_value.specs.declared.value.Value.{Value, Empty}
use Rattle.vb_value.specs.declared.value.Value.TheViews.{Arr}
use Rattle.vb_value.specs.Errors as value
use Rattle.vb_value.specs.Errors.{invalid_call, element_not_found}
use Rattle.vb_heap.specs.declared.fault.HeapStop.{HeapStop}
use Rattle.vb_heap.specs.declared.key.Key.{Key}
use Rattle.vb_heap.specs.Answers.{and_then, refused}
use Rattle.vb_heap.specs.Dictionary.{Dictionary, entry_of}
use Rattle.vb_heap.specs.Entries.{dictionary_of, find_entry_of, entry_at, with_entry, with_entry_set, without_entry}
use Rattle.vb_heap.specs.Keys.{key_of}
use Rattle.vb_heap.specs.Limits.{if_fits, if_fits_at}
use Rattle.vb_heap.specs.Store.{Store}

-- what a key says; Invalid procedure call or argument where a value is none
abbrev pub valid_key : Option Key → Result Key VbError
valid_key (Some key) = Ok key
valid_key None = Err invalid_call

-- where the entry of a key stands in a dictionary, or None; the error of a key that is none
abbrev pub place_of : Value → Dictionary → Result (Option ℕ) VbError
place_of key dictionary =
    value.and_then (valid_key (key_of dictionary.mode key)) (λ said. Ok (entry_of said dictionary))

-- the same in an object
abbrev pub place_in : ObjNo → Value → Store → Result (Option ℕ) VbError
place_in object key store = value.and_then (dictionary_of object store) (place_of key)

-- ---- one entry: Add(key, item) is `add_entry_of`, and leaves the data of `with_entry`

-- what `put` leaves: another item in the key's entry, or an entry more
abbrev pub put_at : ObjNo → Value → Value → Option ℕ → Store → Store
put_at object key item (Some at) store = with_entry_set object at item store
put_at object key item None store = with_entry object key item store

-- Item(key) = item
abbrev pub with_put : ObjNo → Value → Value → Store → Store
with_put object key item store = put_at object key item (find_entry_of key (dictionary_of object store)) store

-- what it answers
abbrev pub put_of : ObjNo → Value → Value → Store → Result (Unit {0}) HeapStop
put_of object key item store =
    and_then (place_in object key store) (λ _. if_fits_at 0 item (with_put object key item store) tt)

-- what `get` leaves: an entry more, of the item Empty, where the key has none
abbrev pub got_at : ObjNo → Value → Option ℕ → Store → Store
got_at object key (Some at) store = store
got_at object key None store = with_entry object key Empty store

-- Item(key)
abbrev pub with_got : ObjNo → Value → Store → Store
with_got object key store = got_at object key (find_entry_of key (dictionary_of object store)) store

-- the item of an entry, Empty where there is none
abbrev pub item_in : Option Pair → Value
item_in (Some pair) = pair.item
item_in None = Empty

-- the item at a place of a dictionary; where the key has no entry, Empty if an entry more fits
abbrev pub item_at : ObjNo → Value → Option ℕ → Store → Result Value HeapStop
item_at object key (Some at) store = Ok (item_in (entry_at at (dictionary_of object store)))
item_at object key None store = if_fits (with_entry object key Empty store) Empty

-- what it answers: the item
abbrev pub get_of : ObjNo → Value → Store → Result Value HeapStop
get_of object key store = and_then (place_in object key store) (λ at. item_at object key at store)

-- Exists(key)
abbrev pub exists_of : ObjNo → Value → Store → Result Bool VbError
exists_of object key store = value.and_then (place_in object key store) (λ at. Ok (is_some at))

-- the data without the entry at a place, if there is one
abbrev pub removed_at : ObjNo → Option ℕ → Store → Store
removed_at object (Some at) store = without_entry object at store
removed_at object None store = store

-- Remove(key): the entry is gone
abbrev pub with_removed : ObjNo → Value → Store → Store
with_removed object key store = removed_at object (find_entry_of key (dictionary_of object store)) store

-- what it answers: Element not found where the key has no entry
abbrev pub remove_of : ObjNo → Value → Store → Result (Unit {0}) HeapStop
remove_of object key store =
    and_then (place_in object key store) (λ at. if is_some at then Ok tt else Err (refused element_not_found))

-- ---- the whole dictionary

-- what RemoveAll answers; it leaves the data of `without_entries`
abbrev pub remove_all_of : ObjNo → Store → Result (Unit {0}) HeapStop
remove_all_of object store = and_then (dictionary_of object store) (λ _. Ok tt)

-- CompareMode
abbrev pub compare_mode_of : ObjNo → Store → Result ℤ VbError
compare_mode_of object store = value.and_then (dictionary_of object store) (λ dictionary. Ok dictionary.mode)

-- whether a dictionary may take a mode: 0 or 1, and only without entries
abbrev pub takes_mode : ℤ → Dictionary → Bool
takes_mode mode dictionary = (int_eq mode (pos 0) || int_eq mode (pos 1)) && length dictionary.pairs == 0

-- CompareMode = mode leaves the data of `with_mode`; what it answers
abbrev pub set_mode_of : ObjNo → ℤ → Store → Result (Unit {0}) HeapStop
set_mode_of object mode store = and_then (dictionary_of object store) (λ dictionary.
    if takes_mode mode dictionary then Ok tt else Err (refused invalid_call))

-- values as an array of one dimension that is not fixed
abbrev pub array_of : List Value → Value
array_of values = Arr (record { bounds = (pos (length values) -ℤ pos 1) ∷ []; fixed = false; items = values })

-- Keys: the keys in the order of insertion, as they were written
abbrev pub keys_of : ObjNo → Store → Result Value VbError
keys_of object store = value.and_then (dictionary_of object store) (λ dictionary.
    Ok (array_of (map (λ pair. pair.key) dictionary.pairs)))

-- Items: the items in the same order
abbrev pub items_of : ObjNo → Store → Result Value VbError
items_of object store = value.and_then (dictionary_of object store) (λ dictionary.
    Ok (array_of (map (λ pair. pair.item) dictionary.pairs)))

-- Count
abbrev pub count_of : ObjNo → Store → Result ℤ VbError
count_of object store = value.and_then (dictionary_of object store) (λ dictionary. Ok (pos (length dictionary.pairs)))
