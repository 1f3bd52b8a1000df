-- Calls on the data of a page that leave what is held.
use Rattle.std.proofs.Common.{ℕ, List, [], ◌∷◌, Bool, true, false, if◌then◌else◌, Option, Some, None, ◌≡◌, refl}
use Rattle.vb_value.specs.declared.value.ObjNo.{ObjNo}
use Rattle.vb_value.specs.declared.value.Value.{Value}
use Rattle.vb_heap.specs.declared.object.Object.{Object}
use Rattle.vb_heap.specs.declared.place.CellNo.{CellNo}
use Rattle.vb_heap.specs.Cells.{without_cell}
use Rattle.vb_heap.specs.DictionaryCalls as dictionary
use Rattle.vb_heap.specs.Entries.{dictionary_of, find_entry_of}
use Rattle.vb_heap.specs.Releases.{ends_now, finished, without_object}
use Rattle.vb_heap.specs.Store.{Store}
use Rattle.vb_meaning.specs.Places.{cells_dropped}
use Rattle.act_laws.specs.Held.{HeldOn}
use Rattle.act_laws.proofs.Holding.{held_same}

-- ---- dictionaries

put_at_held : (object : ObjNo) (key item : Value) (at : Option ℕ) (store : Store)
    → HeldOn store.held (dictionary.put_at object key item at store).held
put_at_held object key item (Some at) store = held_same store.held
put_at_held object key item None store = held_same store.held

pub put_held : (object : ObjNo) (key item : Value) (store : Store)
    → HeldOn store.held (dictionary.with_put object key item store).held
put_held object key item store = put_at_held object key item (find_entry_of key (dictionary_of object store)) store

got_at_held : (object : ObjNo) (key : Value) (at : Option ℕ) (store : Store)
    → HeldOn store.held (dictionary.got_at object key at store).held
got_at_held object key (Some at) store = held_same store.held
got_at_held object key None store = held_same store.held

pub got_held : (object : ObjNo) (key : Value) (store : Store)
    → HeldOn store.held (dictionary.with_got object key store).held
got_held object key store = got_at_held object key (find_entry_of key (dictionary_of object store)) store

removed_at_held : (object : ObjNo) (at : Option ℕ) (store : Store)
    → HeldOn store.held (dictionary.removed_at object at store).held
removed_at_held object (Some at) store = held_same store.held
removed_at_held object None store = held_same store.held

pub removed_held : (object : ObjNo) (key : Value) (store : Store)
    → HeldOn store.held (dictionary.with_removed object key store).held
removed_held object key store = removed_at_held object (find_entry_of key (dictionary_of object store)) store

-- ---- cells, and objects that end

pub dropped_held : (cells : List CellNo) (store : Store) → (cells_dropped cells store).held ≡ store.held
dropped_held [] store = refl
dropped_held (cell ∷ cells) store = dropped_held cells (without_cell cell store)

pub finished_held : (number : ℕ) (found : Option Object) (store : Store)
    → (finished number found store).held ≡ store.held
finished_held number found store = go (ends_now found)
  where
    go : (ends : Bool) → (if ends then without_object number found store else store).held ≡ store.held
    go true = refl
    go false = refl
