-- Laws of dictionaries (Scripting.Dictionary).
use Rattle.std.specs.Prelude.{ℕ, ◌≡◌, true, false, ℤ, pos, List, [], ◌∷◌, ◌++◌, length, map, remove, slice_get}
use Rattle.std.specs.Prelude.{Some, None}
use Rattle.std.specs.Prelude.{Ok}
use Rattle.vb_value.specs.declared.session.Pair.{Pair}
use Rattle.vb_value.specs.declared.value.ObjNo.{ObjNo}
use Rattle.vb_value.specs.declared.value.Value.{Value}
use Rattle.vb_heap.specs.declared.key.Key.{Key}
use Rattle.vb_heap.specs.Dictionary.{Dictionary, KeysDiffer, entry_of}
use Rattle.vb_heap.specs.DictionaryCalls.{array_of, count_of, items_of, keys_of}
use Rattle.vb_heap.specs.Entries.{entry_added, entry_dropped, item_set}
use Rattle.vb_heap.specs.Keys.{key_of, same, says}
use Rattle.vb_heap.specs.Store.{Store}

-- ---- keys

-- being equal as keys is an equivalence
pub record SameIsEquivalence : Type 0 where
  pub itself : (key : Key) → same key key ≡ true
  pub turned : (key other : Key) → same key other ≡ same other key
  pub along : (key other third : Key) → same key other ≡ true → same other third ≡ true → same key third ≡ true

-- keys that are equal with case are equal without it
abbrev pub CaseIsFiner : Type 0
CaseIsFiner = (key other : Value) (said : Key) → key_of (pos 0) key ≡ Some said
    → says said (key_of (pos 0) other) ≡ true
    → (loose : Key) × (key_of (pos 1) key ≡ Some loose) × (says loose (key_of (pos 1) other) ≡ true)

-- the keys of a dictionary as they were written, in the order of its entries
abbrev pub written_keys : Dictionary → List Value
written_keys dictionary = map (λ (pair : Pair). pair.key) dictionary.pairs

-- ---- one entry more

-- A key that had no entry has one after it was added: the last, with the item that was given.
abbrev pub AddedIsLast : Type 0
AddedIsLast = (dictionary : Dictionary) (key item : Value) (said : Key) → key_of dictionary.mode key ≡ Some said
    → entry_of said dictionary ≡ None
    → (entry_of said (entry_added key item dictionary) ≡ Some (length dictionary.pairs))
    × (slice_get (entry_added key item dictionary).pairs (length dictionary.pairs)
    ≡ Some (record { key = key; item = item }))

-- every other key keeps its entry
abbrev pub OthersStayAdded : Type 0
OthersStayAdded = (dictionary : Dictionary) (key item : Value) (other : Key) (at : ℕ)
    → entry_of other dictionary ≡ Some at
    → (entry_of other (entry_added key item dictionary) ≡ Some at)
    × (slice_get (entry_added key item dictionary).pairs at ≡ slice_get dictionary.pairs at)

-- a key that isn't the one added, and had no entry, has none
abbrev pub OthersStayAbsent : Type 0
OthersStayAbsent = (dictionary : Dictionary) (key item : Value) (other : Key)
    → says other (key_of dictionary.mode key) ≡ false → entry_of other dictionary ≡ None
    → entry_of other (entry_added key item dictionary) ≡ None

-- ---- one entry less

-- a key whose entry was taken away has none
abbrev pub RemovedIsAbsent : Type 0
RemovedIsAbsent = (dictionary : Dictionary) (said : Key) (at : ℕ) → KeysDiffer dictionary
    → entry_of said dictionary ≡ Some at → entry_of said (entry_dropped at dictionary) ≡ None

-- ---- the order of keys

-- A key that is added stands behind those before it. Another item leaves the keys as they are, and what is taken away
-- leaves the others in their order.
pub record KeysStayInOrder : Type 0 where
  pub added : (dictionary : Dictionary) (key item : Value)
      → written_keys (entry_added key item dictionary) ≡ written_keys dictionary ++ key ∷ []
  pub set : (dictionary : Dictionary) (at : ℕ) (item : Value)
      → written_keys (item_set at item dictionary) ≡ written_keys dictionary
  pub dropped : (dictionary : Dictionary) (at : ℕ)
      → written_keys (entry_dropped at dictionary) ≡ remove (written_keys dictionary) at

-- Keys, Items and Count tell of as many
abbrev pub CountsAgree : Type 0
CountsAgree = (object : ObjNo) (store : Store) (count : ℤ) → count_of object store ≡ Ok count
    → (keys : List Value) × (items : List Value) × (keys_of object store ≡ Ok (array_of keys))
    × (items_of object store ≡ Ok (array_of items)) × (pos (length keys) ≡ count) × (pos (length items) ≡ count)
