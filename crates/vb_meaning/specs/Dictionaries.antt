-- Dictionaries in a script (Microsoft Scripting Runtime, "Dictionary Object"): what each member does with its
-- arguments, and where it may be assigned to.
use Rattle.std.specs.Prelude.{ℕ, List, [], ◌∷◌, Option, Some, None, Result, Ok, Err}
use Rattle.vb_value.specs.declared.fault.VbError.{VbError}
use Rattle.vb_value.specs.declared.value.ObjNo.{ObjNo}
use Rattle.vb_value.specs.declared.value.Value.{Value, Empty, Long, Bool as Boolean}
use Rattle.vb_value.specs.Conversions.{to_long_of}
use Rattle.vb_value.specs.Errors.{wrong_number, unsupported, and_then}
use Rattle.vb_syntax.specs.declared.program.name.DictionaryMember.{DictionaryMember}
use Rattle.vb_syntax.specs.declared.program.name.DictionaryMember.TheVariants as word
use Rattle.vb_heap.specs.DictionaryCalls as dictionary
use Rattle.vb_heap.specs.Entries.{add_entry_of, with_entry, with_mode, without_entries}
use Rattle.vb_heap.specs.Store.{Store}
use Rattle.vb_meaning.specs.World.{World}
use Rattle.vb_meaning.specs.State.{on_store}
use Rattle.vb_meaning.specs.Step.{Run, ◌>>=◌, ◌>>◌, pure, given, fails}
use Rattle.vb_meaning.specs.Stored.{class_of}

-- what a question to the data of the page gives
abbrev pub asking : {A : Type 0} → (Store → Result A VbError) → Run World A
asking question world = given (question world.store) world

-- no class is that of a dictionary; an object of a class has no items
abbrev pub no_class : Option ℕ → Result (Unit {0}) VbError
no_class None = Ok tt
no_class (Some class) = Err unsupported

-- whether an object has items: it is a dictionary that has not ended
abbrev pub has_items : ObjNo → Store → Result (Unit {0}) VbError
has_items object store = and_then (class_of object store) no_class

-- an item by its key, which is added with Empty where it is absent
unfoldable pub item : ObjNo → Value → Run World Value
item object key = on_store (dictionary.get_of object key) (dictionary.with_got object key)

-- an item by its key, for the one argument of a group
abbrev pub item_by : ObjNo → List Value → Run World Value
item_by object (key ∷ []) = item object key
item_by object _ = fails wrong_number

-- an item is another one, or an entry more
unfoldable pub put_item : ObjNo → Value → Value → Run World (Unit {0})
put_item object key value = on_store (dictionary.put_of object key value) (dictionary.with_put object key value)

-- the same, for the one argument of a group
abbrev pub put_by : ObjNo → List Value → Value → Run World (Unit {0})
put_by object (key ∷ []) value = put_item object key value
put_by object _ value = fails wrong_number

-- CompareMode is another one
abbrev pub set_mode : ObjNo → Value → Run World (Unit {0})
set_mode object value = given (to_long_of value) >>= (λ mode.
    on_store (dictionary.set_mode_of object mode) (with_mode object mode))

-- a member that is read or called, with its arguments; another number of arguments is refused
unfoldable pub member : ObjNo → DictionaryMember → List Value → Run World Value
member object word.Add (key ∷ value ∷ []) =
    on_store (add_entry_of object key value) (with_entry object key value) >> pure Empty
member object word.Item (key ∷ []) = item object key
member object word.Exists (key ∷ []) = asking (dictionary.exists_of object key) >>= (λ truth. pure (Boolean truth))
member object word.Remove (key ∷ []) =
    on_store (dictionary.remove_of object key) (dictionary.with_removed object key) >> pure Empty
member object word.RemoveAll [] =
    on_store (dictionary.remove_all_of object) (without_entries object) >> pure Empty
member object word.Keys [] = asking (dictionary.keys_of object)
member object word.Items [] = asking (dictionary.items_of object)
member object word.Count [] = asking (dictionary.count_of object) >>= (λ count. pure (Long count))
member object word.CompareMode [] = asking (dictionary.compare_mode_of object) >>= (λ mode. pure (Long mode))
member object _ _ = fails wrong_number

-- a member by its name; another name is no member
abbrev pub named_member : ObjNo → Option DictionaryMember → List Value → Run World Value
named_member object (Some found) arguments = member object found arguments
named_member object None arguments = fails unsupported

-- a member that is assigned to: an item or CompareMode
abbrev pub set_member : ObjNo → Option DictionaryMember → List Value → Value → Run World (Unit {0})
set_member object (Some word.Item) arguments value = put_by object arguments value
set_member object (Some word.CompareMode) [] value = set_mode object value
set_member object (Some word.CompareMode) _ value = fails wrong_number
set_member object _ arguments value = fails unsupported
