-- The calls on the entries of a dictionary: what each answers, and the data that it leaves where it is not
-- refused. An entry has a place, counted from 0 in the order of insertion.
use Rattle.std.specs.Prelude.{ℕ, ℤ, pos, List, [], ◌∷◌, ◌++◌, length, slice_get, slice_set, remove}
use Rattle.std.specs.Prelude.{Option, Some, None, is_some, Result, Ok, Err, ◌==◌, if◌then◌else◌}
use Rattle.std.specs.Option.{option_map, option_map_or}
use Rattle.vb_value.specs.declared.fault.VbError.{VbError}
use Rattle.vb_value.specs.declared.session.Pair.{Pair}
use Rattle.vb_value.specs.declared.value.ObjNo.{ObjNo}
use Rattle.vb_value.specs.declared.value.Value.{Value}
use Rattle.vb_value.specs.Errors as value
use Rattle.vb_value.specs.Errors.{object_not_set, unsupported, invalid_call, out_of_range, key_exists}
use Rattle.vb_heap.specs.declared.fault.HeapStop.{HeapStop}
use Rattle.vb_heap.specs.declared.key.Key.{Key}
use Rattle.vb_heap.specs.declared.object.Content.{Content}
use Rattle.vb_heap.specs.declared.object.Content.TheVariants.{Fields, Entries}
use Rattle.vb_heap.specs.declared.object.Object.{Object}
use Rattle.vb_heap.specs.Answers.{and_then}
use Rattle.vb_heap.specs.Dictionary.{Dictionary, no_entries, entry_of}
use Rattle.vb_heap.specs.Keys.{key_of}
use Rattle.vb_heap.specs.Limits.{if_fits, if_fits_at}
use Rattle.vb_heap.specs.Objects.{with_object}
use Rattle.vb_heap.specs.Store.{Store, numbered, replaced}

-- `new_table`: an object more, a dictionary without entries
abbrev pub with_new_table : Store → Store
with_new_table store = with_object (Entries no_entries) store

-- its number
abbrev pub new_table_of : Store → Result ObjNo HeapStop
new_table_of store = if_fits (with_new_table store) (record { 0 = store.objects_made })

-- the dictionary that an object consists of; an object of a class has no entries
abbrev pub dictionary_in : Content → Result Dictionary VbError
dictionary_in (Entries dictionary) = Ok dictionary
dictionary_in (Fields class cells) = Err unsupported

-- the same of an object; Object variable not set where it has ended
abbrev pub dictionary_there : Option Object → Result Dictionary VbError
dictionary_there (Some object) = dictionary_in object.content
dictionary_there None = Err object_not_set

-- the dictionary that an object is
abbrev pub dictionary_of : ObjNo → Store → Result Dictionary VbError
dictionary_of object store = dictionary_there (numbered object.0 store.objects)

-- where the entry of a key stands, if it has one
abbrev pub entry_in : Option Key → Dictionary → Option ℕ
entry_in (Some key) dictionary = entry_of key dictionary
entry_in None dictionary = None

-- `find_entry`: where the entry of a key stands, if there is one
abbrev pub find_entry_of : Value → Result Dictionary VbError → Option ℕ
find_entry_of key (Ok dictionary) = entry_in (key_of dictionary.mode key) dictionary
find_entry_of key (Err refused) = None

-- `entry`: the entry that stands at a place, if there is one
abbrev pub entry_at : ℕ → Result Dictionary VbError → Option Pair
entry_at at (Ok dictionary) = slice_get dictionary.pairs at
entry_at at (Err refused) = None

-- `table_mode`: how the keys of a dictionary compare
abbrev pub mode_of : Result Dictionary VbError → ℤ
mode_of (Ok dictionary) = dictionary.mode
mode_of (Err refused) = pos 0

-- `entry_count`: how many entries a dictionary has
abbrev pub entry_count_of : Result Dictionary VbError → ℕ
entry_count_of (Ok dictionary) = length dictionary.pairs
entry_count_of (Err refused) = 0

-- what an object consists of with its dictionary changed; an object of a class stays
abbrev pub content_changed : (Dictionary → Dictionary) → Content → Content
content_changed change (Entries dictionary) = Entries (change dictionary)
content_changed change (Fields class cells) = Fields class cells

-- the same of an object
abbrev pub object_changed : (Dictionary → Dictionary) → Object → Object
object_changed change object = record object { content = content_changed change object.content }

-- the same of an object that may be there
abbrev pub found_changed : (Dictionary → Dictionary) → Option Object → Option Object
found_changed change found = option_map (object_changed change) found

-- the objects with the dictionary of one of them changed, if it is there
abbrev pub objects_changed : (Dictionary → Dictionary) → ℕ → List (ℕ × Object) → List (ℕ × Object)
objects_changed change number objects =
    option_map_or (λ object. replaced number (object_changed change object) objects) (numbered number objects) objects

-- the data with a dictionary changed, if it is there
abbrev pub with_dictionary : (Dictionary → Dictionary) → ObjNo → Store → Store
with_dictionary change object store = record store { objects = objects_changed change object.0 store.objects }

-- a dictionary with an entry more, which is the last
abbrev pub pair_added : Pair → Dictionary → Dictionary
pair_added pair dictionary = record dictionary { pairs = dictionary.pairs ++ pair ∷ [] }

-- the same of a key and an item
abbrev pub entry_added : Value → Value → Dictionary → Dictionary
entry_added key item dictionary = pair_added (record { key = key; item = item }) dictionary

-- an entry with another item
abbrev pub with_item : Value → Pair → Pair
with_item item pair = record pair { item = item }

-- a dictionary with another item in the entry at a place, if there is one
abbrev pub item_set : ℕ → Value → Dictionary → Dictionary
item_set at item dictionary = record dictionary {
  pairs = option_map_or (λ pair. slice_set dictionary.pairs at (with_item item pair))
      (slice_get dictionary.pairs at) dictionary.pairs;
}

-- a dictionary without the entry at a place: the later ones move up by one
abbrev pub entry_dropped : ℕ → Dictionary → Dictionary
entry_dropped at dictionary = record dictionary { pairs = remove dictionary.pairs at }

-- a dictionary without its entries
abbrev pub emptied : Dictionary → Dictionary
emptied dictionary = record dictionary { pairs = [] }

-- a dictionary whose keys compare so, if it has no entries
abbrev pub mode_set : ℤ → Dictionary → Dictionary
mode_set mode dictionary = if length dictionary.pairs == 0 then record dictionary { mode = mode } else dictionary

-- what a key says that has no entry yet; Invalid procedure call or argument where it is none
abbrev pub free_key : Option Key → Dictionary → Result Key VbError
free_key (Some key) dictionary = if is_some (entry_of key dictionary) then Err key_exists else Ok key
free_key None dictionary = Err invalid_call

-- the entry at a place; Subscript out of range where there is none
abbrev pub pair_there : Option Pair → Result Pair VbError
pair_there (Some pair) = Ok pair
pair_there None = Err out_of_range

-- the same in a dictionary
abbrev pub entry_there : ℕ → Result Dictionary VbError → Result Pair VbError
entry_there at answer = value.and_then answer (λ dictionary. pair_there (slice_get dictionary.pairs at))

-- `add_entry`: an entry more, the last
abbrev pub with_entry : ObjNo → Value → Value → Store → Store
with_entry object key item store = with_dictionary (entry_added key item) object store

-- it answers first for the dictionary, then for the key, then the limit Nest and the limit Data
abbrev pub add_entry_of : ObjNo → Value → Value → Store → Result (Unit {0}) HeapStop
add_entry_of object key item store = and_then (dictionary_of object store) (λ dictionary.
    and_then (free_key (key_of dictionary.mode key) dictionary) (λ _.
    if_fits_at 0 item (with_entry object key item store) tt))

-- `set_entry`: an entry with another item, in its place
abbrev pub with_entry_set : ObjNo → ℕ → Value → Store → Store
with_entry_set object at item store = with_dictionary (item_set at item) object store

-- it answers first for the dictionary, then for the place, then the limit Nest and the limit Data
abbrev pub set_entry_of : ObjNo → ℕ → Value → Store → Result (Unit {0}) HeapStop
set_entry_of object at item store = and_then (entry_there at (dictionary_of object store)) (λ _.
    if_fits_at 0 item (with_entry_set object at item store) tt)

-- `drop_entry`: the entry at a place is gone
abbrev pub without_entry : ObjNo → ℕ → Store → Store
without_entry object at store = with_dictionary (entry_dropped at) object store

-- `drop_entries`: all entries are gone
abbrev pub without_entries : ObjNo → Store → Store
without_entries object store = with_dictionary emptied object store

-- `set_table_mode`: the keys of a dictionary without entries compare so
abbrev pub with_mode : ObjNo → ℤ → Store → Store
with_mode object mode store = with_dictionary (mode_set mode) object store
