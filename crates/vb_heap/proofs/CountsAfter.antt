-- The counts of the objects of a page after each call: those before it, less what went and with what came.
use Rattle.std.proofs.Common.{ℕ, ◌≤◌, ◌≡◌, ◌∙◌, ◌==◌, ℤ, [], ◌∷◌, ◌++◌, drop, slice_get}
use Rattle.std.proofs.Common.{Option, Some, None, Ok, refl, sym, ap, arith}
use Rattle.std.specs.Option.{option_map_or}
use Rattle.vb_value.specs.declared.session.Pair.{Pair}
use Rattle.vb_value.specs.declared.value.ObjNo.{ObjNo}
use Rattle.vb_value.specs.declared.value.Value.{Value, Empty}
use Rattle.vb_heap.specs.declared.object.Content.{Content}
use Rattle.vb_heap.specs.declared.object.Content.TheVariants.{Entries, Fields}
use Rattle.vb_heap.specs.declared.object.Object.{Object}
use Rattle.vb_heap.specs.declared.place.CellNo.{CellNo}
use Rattle.vb_heap.specs.declared.place.Place.{Place}
use Rattle.vb_heap.specs.Cells.{read_of, with_new_cell, with_stored, without_cell}
use Rattle.vb_heap.specs.Counted.{ReferencesMove, content_gone, counts_in, counts_less, counts_more, item_references}
use Rattle.vb_heap.specs.Counts.{count_of}
use Rattle.vb_heap.specs.Dictionary.{Dictionary, no_entries}
use Rattle.vb_heap.specs.Entries.{dictionary_of, emptied, entry_added, entry_dropped, item_set, mode_set}
use Rattle.vb_heap.specs.Entries.{object_changed}
use Rattle.vb_heap.specs.Entries.{with_dictionary, with_entry, with_entry_set, with_mode, with_new_table}
use Rattle.vb_heap.specs.Entries.{without_entries}
use Rattle.vb_heap.specs.Entries.{without_entry}
use Rattle.vb_heap.specs.Held.{let_go_to, with_held}
use Rattle.vb_heap.specs.Objects.{cells_from, live, with_new_object}
use Rattle.vb_heap.specs.References.{references, references_to}
use Rattle.vb_heap.specs.Releases.{ending, with_ending, without_object}
use Rattle.vb_heap.specs.Store.{Store, numbered, without}
use Rattle.vb_heap.proofs.Counting.{less_none}
use Rattle.vb_heap.proofs.ItemMoves.{added_item_moves, dropped_item_moves, dropped_items_move, ended_object_moves}
use Rattle.vb_heap.proofs.ItemMoves.{ended_table_moves, ending_moves, mode_moves, none_goes, set_item_moves}
use Rattle.vb_heap.proofs.Moves.{dropped_cell_moves, empty_refers, held_moves, let_go_moves, new_cell_moves}
use Rattle.vb_heap.proofs.Moves.{new_object_moves, new_table_moves, stored_moves}
use Rattle.vb_heap.proofs.Told.{counting, none_moved, some_came, some_moved, some_went, told, told_both, told_changed}
use Rattle.vb_heap.proofs.Told.{told_without}

-- ---- cells

-- what is stored over is among all references
stored_there : (place : Place) (old : Value) (store : Store) → read_of place store ≡ Ok old
    → (number : ℕ) → count_of number (references old) ≤ references_to number store
stored_there place old store is number =
    let move = stored_moves place Empty old store is (λ other. other == number) in
    let none = empty_refers (λ other. other == number) in
    omega (arith, move, none)

pub stored_counts : (place : Place) (new old : Value) (store : Store) → read_of place store ≡ Ok old
    → counts_in (with_stored place new store)
    ≡ counts_more (references new) (counts_less (references old) (counts_in store))
stored_counts place new old store is =
    some_moved store (with_stored place new store) store.objects (references old) (references new)
    (stored_moves place new old store is) (stored_there place old store is)

pub new_cell_counts : (value : Value) (store : Store)
    → counts_in (with_new_cell value store) ≡ counts_more (references value) (counts_in store)
new_cell_counts value store =
    some_came store (with_new_cell value store) store.objects (references value) (new_cell_moves value store)

pub dropped_cell_counts : (cell : CellNo) (store : Store) (found : Option Value) → numbered cell.0 store.cells ≡ found
    → counts_in (without_cell cell store) ≡ counts_less (option_map_or references found []) (counts_in store)
dropped_cell_counts cell store (Some value) is =
    some_went store (without_cell cell store) store.objects (references value) (dropped_cell_moves cell value store is)
dropped_cell_counts cell store None is =
    ap (λ cells. counts_in (record store { cells = cells })) (none_goes cell.0 store.cells is)
    ∙ sym (less_none (counts_in store))

-- ---- held values

pub held_counts : (value : Value) (store : Store)
    → counts_in (with_held value store) ≡ counts_more (references value) (counts_in store)
held_counts value store =
    some_came store (with_held value store) store.objects (references value) (held_moves value store)

pub let_go_counts : (mark : ℕ) (store : Store)
    → counts_in (let_go_to mark store) ≡ counts_less (drop mark store.held) (counts_in store)
let_go_counts mark store =
    some_went store (let_go_to mark store) store.objects (drop mark store.held) (let_go_moves mark store)

-- ---- new objects: what refers to them already is their count

pub new_object_counts : (class fields : ℕ) (store : Store)
    → counts_in (with_new_object class fields store)
    ≡ counts_in store ++ (store.objects_made, references_to store.objects_made store) ∷ []
new_object_counts class fields store =
    none_moved store (with_new_object class fields store) (with_new_object class fields store).objects
    (new_object_moves class fields store)
    ∙ told_both (counting store) store.objects
    ((store.objects_made, live (Fields class (cells_from store.cells_made fields))) ∷ [])

pub new_table_counts : (store : Store)
    → counts_in (with_new_table store)
    ≡ counts_in store ++ (store.objects_made, references_to store.objects_made store) ∷ []
new_table_counts store =
    none_moved store (with_new_table store) (with_new_table store).objects (new_table_moves store)
    ∙ told_both (counting store) store.objects ((store.objects_made, live (Entries no_entries)) ∷ [])

-- ---- dictionaries

-- a dictionary that is changed is the same object
same_objects : (change : Dictionary → Dictionary) (table : ObjNo) (store : Store)
    → told (counting store) (with_dictionary change table store).objects ≡ counts_in store
same_objects change table store =
    told_changed (counting store) table.0 (object_changed change) store.objects (numbered table.0 store.objects)

pub added_item_counts : (table : ObjNo) (key item : Value) (store : Store) (found : Dictionary)
    → dictionary_of table store ≡ Ok found
    → counts_in (with_entry table key item store) ≡ counts_more (references item) (counts_in store)
added_item_counts table key item store found said =
    some_came store (with_entry table key item store) (with_entry table key item store).objects (references item)
    (added_item_moves table key item store found said)
    ∙ ap (counts_more (references item)) (same_objects (entry_added key item) table store)

-- the item that another one comes for is among all references
item_there : (table : ObjNo) (at : ℕ) (store : Store) (found : Dictionary) (pair : Pair)
    → dictionary_of table store ≡ Ok found → slice_get found.pairs at ≡ Some pair
    → (number : ℕ) → count_of number (references pair.item) ≤ references_to number store
item_there table at store found pair said there number =
    let move = dropped_item_moves table at store found pair said there (λ other. other == number) in
    omega (arith, move)

pub set_item_counts : (table : ObjNo) (at : ℕ) (item : Value) (store : Store) (found : Dictionary) (pair : Pair)
    → dictionary_of table store ≡ Ok found → slice_get found.pairs at ≡ Some pair
    → counts_in (with_entry_set table at item store)
    ≡ counts_more (references item) (counts_less (references pair.item) (counts_in store))
set_item_counts table at item store found pair said there =
    some_moved store (with_entry_set table at item store) (with_entry_set table at item store).objects
    (references pair.item) (references item) (set_item_moves table at item store found pair said there)
    (item_there table at store found pair said there)
    ∙ ap (λ counts. counts_more (references item) (counts_less (references pair.item) counts))
    (same_objects (item_set at item) table store)

pub dropped_item_counts : (table : ObjNo) (at : ℕ) (store : Store) (found : Dictionary) (pair : Pair)
    → dictionary_of table store ≡ Ok found → slice_get found.pairs at ≡ Some pair
    → counts_in (without_entry table at store) ≡ counts_less (references pair.item) (counts_in store)
dropped_item_counts table at store found pair said there =
    some_went store (without_entry table at store) (without_entry table at store).objects (references pair.item)
    (dropped_item_moves table at store found pair said there)
    ∙ ap (counts_less (references pair.item)) (same_objects (entry_dropped at) table store)

pub dropped_items_counts : (table : ObjNo) (store : Store) (found : Dictionary) → dictionary_of table store ≡ Ok found
    → counts_in (without_entries table store) ≡ counts_less (item_references found) (counts_in store)
dropped_items_counts table store found said =
    some_went store (without_entries table store) (without_entries table store).objects (item_references found)
    (dropped_items_move table store found said)
    ∙ ap (counts_less (item_references found)) (same_objects emptied table store)

pub mode_counts : (table : ObjNo) (mode : ℤ) (store : Store) (found : Dictionary) → dictionary_of table store ≡ Ok found
    → counts_in (with_mode table mode store) ≡ counts_in store
mode_counts table mode store found said =
    none_moved store (with_mode table mode store) (with_mode table mode store).objects
    (mode_moves table mode store found said)
    ∙ same_objects (mode_set mode) table store

-- ---- objects that end

pub ending_counts : (named : Option ℕ) (store : Store) → counts_in (with_ending named store) ≡ counts_in store
ending_counts None store = refl
ending_counts (Some number) store =
    none_moved store (with_ending (Some number) store) (with_ending (Some number) store).objects
    (ending_moves (Some number) store)
    ∙ told_changed (counting store) number ending store.objects (numbered number store.objects)

-- what goes with an object that ends
pub ended_moves : (ended : ℕ) (thing : Object) (store : Store) (content : Content) → thing.content ≡ content
    → numbered ended store.objects ≡ Some thing
    → ReferencesMove (content_gone content store.cells) [] store (without_object ended (Some thing) store)
ended_moves ended thing store (Fields class fields) inside is =
    ended_object_moves ended class thing fields store is inside
ended_moves ended thing store (Entries found) inside is = ended_table_moves ended thing found store is inside

-- its own count goes, and then those of what went with it are lowered
pub ended_counts : (ended : ℕ) (thing : Object) (store : Store) → numbered ended store.objects ≡ Some thing
    → counts_in (without_object ended (Some thing) store)
    ≡ counts_less (content_gone thing.content store.cells) (without ended (counts_in store))
ended_counts ended thing store is =
    some_went store (without_object ended (Some thing) store) (without ended store.objects)
    (content_gone thing.content store.cells) (ended_moves ended thing store thing.content refl is)
    ∙ ap (counts_less (content_gone thing.content store.cells)) (told_without (counting store) ended store.objects)
