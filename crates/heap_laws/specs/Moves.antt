-- How references to objects come and go: after a call they are those before, less what went and with what came.
use Rattle.std.specs.Prelude.{ℕ, ◌+◌, ◌≡◌, true, List, [], ◌∷◌, drop, slice_get, sum_by, Some, Ok}
use Rattle.std.specs.Option.{option_map_or}
use Rattle.vb_value.specs.declared.session.Pair.{Pair}
use Rattle.vb_value.specs.declared.value.ObjNo.{ObjNo}
use Rattle.vb_value.specs.declared.value.Value.{Value}
use Rattle.vb_heap.specs.declared.place.CellNo.{CellNo}
use Rattle.vb_heap.specs.declared.place.Place.{Place}
use Rattle.vb_heap.specs.Cells.{read_of, with_new_cell, with_stored, without_cell}
use Rattle.vb_heap.specs.Counts.{count_of}
use Rattle.vb_heap.specs.declared.object.Content.TheVariants.{Entries, Fields}
use Rattle.vb_heap.specs.declared.object.Object.{Object}
use Rattle.vb_heap.specs.Dictionary.{Dictionary}
use Rattle.vb_heap.specs.Entries.{dictionary_of, with_entry, with_entry_set, with_new_table, without_entries}
use Rattle.vb_heap.specs.Entries.{without_entry}
use Rattle.vb_heap.specs.Held.{let_go_to, with_held}
use Rattle.vb_heap.specs.Objects.{with_new_object}
use Rattle.vb_heap.specs.References.{references, references_to}
use Rattle.vb_heap.specs.Releases.{finished}
use Rattle.vb_heap.specs.Store.{Store, numbered, without}

-- how often an object stands among the references of a value
abbrev pub times_in : ℕ → Value → ℕ
times_in object value = count_of object (references value)

-- how often it stands among those of the items of a dictionary
abbrev pub times_in_items : ℕ → Dictionary → ℕ
times_in_items object dictionary = sum_by (λ (pair : Pair). times_in object pair.item) dictionary.pairs

-- how often it stands among those of the values of some cells, each of which goes when it was counted
abbrev pub times_in_cells : ℕ → List CellNo → List (ℕ × Value) → ℕ
times_in_cells object [] cells = 0
times_in_cells object (first ∷ others) cells =
    option_map_or (times_in object) (numbered first.0 cells) 0 + times_in_cells object others (without first.0 cells)

-- a new cell refers to what its value refers to
abbrev pub NewCellRefers : Type 0
NewCellRefers = (object : ℕ) (value : Value) (store : Store)
    → references_to object (with_new_cell value store) ≡ references_to object store + times_in object value

-- a cell that goes takes the references of its value with it
abbrev pub DroppedCellRefers : Type 0
DroppedCellRefers = (object : ℕ) (cell : CellNo) (value : Value) (store : Store)
    → numbered cell.0 store.cells ≡ Some value
    → references_to object (without_cell cell store) + times_in object value ≡ references_to object store

-- what is stored at a place comes for what was there
abbrev pub StoredRefers : Type 0
StoredRefers = (object : ℕ) (place : Place) (new old : Value) (store : Store) → read_of place store ≡ Ok old
    → references_to object (with_stored place new store) + times_in object old
    ≡ references_to object store + times_in object new

-- what is held refers to what it is
abbrev pub HeldRefers : Type 0
HeldRefers = (object : ℕ) (value : Value) (store : Store)
    → references_to object (with_held value store) ≡ references_to object store + times_in object value

-- what is let go takes its references with it
abbrev pub LetGoRefers : Type 0
LetGoRefers = (object mark : ℕ) (store : Store)
    → references_to object (let_go_to mark store) + count_of object (drop mark store.held)
    ≡ references_to object store

-- a new object, and a new dictionary, refer to nothing
abbrev pub NewObjectRefers : Type 0
NewObjectRefers = (object class fields : ℕ) (store : Store)
    → references_to object (with_new_object class fields store) ≡ references_to object store

abbrev pub NewTableRefers : Type 0
NewTableRefers = (object : ℕ) (store : Store) → references_to object (with_new_table store) ≡ references_to object store

-- ---- entries of dictionaries

-- an entry that is added to a dictionary refers to what its item refers to
abbrev pub AddedItemRefers : Type 0
AddedItemRefers = (object : ℕ) (table : ObjNo) (key item : Value) (store : Store) (found : Dictionary)
    → dictionary_of table store ≡ Ok found
    → references_to object (with_entry table key item store) ≡ references_to object store + times_in object item

-- another item of an entry comes for the one that was there
abbrev pub SetItemRefers : Type 0
SetItemRefers = (object : ℕ) (table : ObjNo) (at : ℕ) (item : Value) (store : Store) (found : Dictionary) (pair : Pair)
    → dictionary_of table store ≡ Ok found → slice_get found.pairs at ≡ Some pair
    → references_to object (with_entry_set table at item store) + times_in object pair.item
    ≡ references_to object store + times_in object item

-- an entry that is taken away takes the references of its item with it
abbrev pub DroppedItemRefers : Type 0
DroppedItemRefers = (object : ℕ) (table : ObjNo) (at : ℕ) (store : Store) (found : Dictionary) (pair : Pair)
    → dictionary_of table store ≡ Ok found → slice_get found.pairs at ≡ Some pair
    → references_to object (without_entry table at store) + times_in object pair.item ≡ references_to object store

-- and so do all entries that are taken away
abbrev pub DroppedItemsRefer : Type 0
DroppedItemsRefer = (object : ℕ) (table : ObjNo) (store : Store) (found : Dictionary)
    → dictionary_of table store ≡ Ok found
    → references_to object (without_entries table store) + times_in_items object found ≡ references_to object store

-- ---- an object that ends

-- A dictionary that ends takes the references of its items with it, and an object of a class those of its fields. An
-- object that is not ending stays.
abbrev pub EndedTableRefers : Type 0
EndedTableRefers = (object ended : ℕ) (thing : Object) (found : Dictionary) (store : Store)
    → numbered ended store.objects ≡ Some thing → thing.ending ≡ true → thing.content ≡ Entries found
    → references_to object (finished ended (Some thing) store) + times_in_items object found
    ≡ references_to object store

abbrev pub EndedObjectRefers : Type 0
EndedObjectRefers = (object ended class : ℕ) (thing : Object) (fields : List CellNo) (store : Store)
    → numbered ended store.objects ≡ Some thing → thing.ending ≡ true → thing.content ≡ Fields class fields
    → references_to object (finished ended (Some thing) store) + times_in_cells object fields store.cells
    ≡ references_to object store
