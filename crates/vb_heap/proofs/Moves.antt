-- How references to objects come and go: whichever are counted, after a change they are those before it, less what went
-- and with what came.
use Rattle.std.proofs.Common.{ℕ, ◌+◌, ◌≡◌, ◌∙◌, ℤ, Bool, List, [], ◌∷◌, ◌++◌}
use Rattle.std.proofs.Common.{drop, take, sum_by, get_or, slice_get, slice_set, Option, Some, None, Ok}
use Rattle.std.proofs.Common.{refl, sym, ap, inl, inr, arith}
use Rattle.std.specs.Prelude.{count_by}
use Rattle.std.proofs.lemmas.List.{take-append-drop}
use Rattle.std.proofs.lemmas.List.Sums.{sum_by-append, sum_by-cons, sum_by-set}
use Rattle.std.proofs.lemmas.Option.{get_or_from_slice_get, slice_get_cases}
use Rattle.std.specs.Map.{values_of}
use Rattle.std.specs.Option.{option_map_or}
use Rattle.vb_value.specs.declared.value.Array.{Array}
use Rattle.vb_value.specs.declared.value.Value.{Value, Empty, out-Value, roll-Value, roll-out-Value}
use Rattle.vb_value.specs.declared.value.Value.TheFolds.{fold-roll-Value}
use Rattle.vb_value.specs.declared.value.Value.TheOpen.{Value-F}
use Rattle.vb_value.specs.declared.value.Value.TheViews.{Arr, rolls-Arr, rolls-Empty}
use Rattle.vb_value.specs.Errors.{and_then}
use Rattle.vb_heap.specs.declared.object.Content.TheVariants.{Entries, Fields}
use Rattle.vb_heap.specs.declared.object.Object.{Object}
use Rattle.vb_heap.specs.declared.place.CellNo.{CellNo}
use Rattle.vb_heap.specs.declared.place.Place.{Place}
use Rattle.vb_heap.specs.Cells.{read_of, value_there, with_new_cell, with_stored, without_cell}
use Rattle.vb_heap.specs.Counted.{ReferencesMove}
use Rattle.vb_heap.specs.Dictionary.{no_entries}
use Rattle.vb_heap.specs.Entries.{with_new_table}
use Rattle.vb_heap.specs.Held.{let_go_to, with_held}
use Rattle.vb_heap.specs.Objects.{cells_from, empty_cells, live, with_new_object}
use Rattle.vb_heap.specs.Places.{array_changed, in_range, item_at, item_changed, item_of, items_changed, position}
use Rattle.vb_heap.specs.Places.{value_in, with_value}
use Rattle.vb_heap.specs.References.{all_references, array_references, object_references, references, value_references}
use Rattle.vb_heap.specs.Store.{Store, numbered, replaced, without}
use Rattle.vb_heap.proofs.Numbered.{values_both}
use Rattle.vb_heap.proofs.Sums.{add_up, counted, counted_both, replaced_total, without_total}
use Rattle.vb_heap.proofs.ValueReferences.{references_arr}

-- how many of the references of a value pass a test
abbrev pub times : (ℕ → Bool) → Value → ℕ
times test value = count_by test (references value)

-- ---- the parts of all references

abbrev pub in_cells : (ℕ → Bool) → List (ℕ × Value) → ℕ
in_cells test cells = sum_by (λ value. count_by test (references value)) (values_of cells)

abbrev pub in_objects : (ℕ → Bool) → List (ℕ × Object) → ℕ
in_objects test objects = sum_by (λ thing. count_by test (object_references thing)) (values_of objects)

pub parts : (test : ℕ → Bool) (store : Store) → count_by test (all_references store)
    ≡ in_cells test store.cells + in_objects test store.objects + count_by test store.held
parts test store = add_up test store

cells_more : (test : ℕ → Bool) (cells others : List (ℕ × Value))
    → in_cells test (cells ++ others) ≡ in_cells test cells + in_cells test others
cells_more test cells others = rw (values_both cells others)
    (sum_by-append (λ value. count_by test (references value)) (values_of cells) (values_of others))

objects_more : (test : ℕ → Bool) (objects others : List (ℕ × Object))
    → in_objects test (objects ++ others) ≡ in_objects test objects + in_objects test others
objects_more test objects others = rw (values_both objects others)
    (sum_by-append (λ thing. count_by test (object_references thing)) (values_of objects) (values_of others))

one_cell : (test : ℕ → Bool) (number : ℕ) (value : Value) → in_cells test ((number, value) ∷ []) ≡ times test value
one_cell test number value =
    sum_by-cons (λ found. count_by test (references found)) value [] ∙ omega arith

one_object : (test : ℕ → Bool) (number : ℕ) (thing : Object) → object_references thing ≡ []
    → in_objects test ((number, thing) ∷ []) ≡ 0
one_object test number thing none =
    sum_by-cons (λ found. count_by test (object_references found)) thing []
    ∙ ap (λ found. count_by test found + 0) none

-- ---- cells that come and go

pub new_cell_moves : (value : Value) (store : Store)
    → ReferencesMove [] (references value) store (with_new_cell value store)
new_cell_moves value store test =
    let before = parts test store in
    let after = parts test (with_new_cell value store) in
    let more = cells_more test store.cells ((store.cells_made, value) ∷ []) in
    let one = one_cell test store.cells_made value in
    omega arith

pub without_one : (test : ℕ → Bool) (number : ℕ) (value : Value) (cells : List (ℕ × Value))
    → numbered number cells ≡ Some value
    → in_cells test (without number cells) + times test value ≡ in_cells test cells
without_one test number value cells is = without_total (times test) number value cells is

pub dropped_cell_moves : (cell : CellNo) (value : Value) (store : Store) → numbered cell.0 store.cells ≡ Some value
    → ReferencesMove (references value) [] store (without_cell cell store)
dropped_cell_moves cell value store is test =
    let before = parts test store in
    let after = parts test (without_cell cell store) in
    let one = without_one test cell.0 value store.cells is in
    omega arith

-- ---- what is held

pub held_moves : (value : Value) (store : Store) → ReferencesMove [] (references value) store (with_held value store)
held_moves value store test =
    let before = parts test store in
    let after = parts test (with_held value store) in
    let both = counted_both test store.held (references value) in
    omega arith

pub let_go_moves : (mark : ℕ) (store : Store) → ReferencesMove (drop mark store.held) [] store (let_go_to mark store)
let_go_moves mark store test =
    let before = parts test store in
    let after = parts test (let_go_to mark store) in
    let both = counted_both test (take mark store.held) (drop mark store.held) in
    let whole : count_by test (take mark store.held ++ drop mark store.held) ≡ count_by test store.held =
    ap (count_by test) (take-append-drop mark store.held) in
    omega arith

-- ---- new objects

-- Empty refers to nothing
pub empty_refers : (test : ℕ → Bool) → times test Empty ≡ 0
empty_refers test = ap (count_by test)
    (ap references (sym rolls-Empty)
    ∙ fold-roll-Value (List ℕ) (List ℕ) value_references array_references Value-F.Empty)

no_cells : (test : ℕ → Bool) (cells : List CellNo) → in_cells test (empty_cells cells) ≡ 0
no_cells test [] = refl
no_cells test (cell ∷ cells) =
    let rest = no_cells test cells in
    let none = empty_refers test in
    let all = sum_by-cons (λ found. count_by test (references found)) Empty (values_of (empty_cells cells)) in
    omega arith

pub new_object_moves : (class fields : ℕ) (store : Store)
    → ReferencesMove [] [] store (with_new_object class fields store)
new_object_moves class fields store test =
    let before = parts test store in
    let after = parts test (with_new_object class fields store) in
    let cells = cells_more test store.cells (empty_cells (cells_from store.cells_made fields)) in
    let none = no_cells test (cells_from store.cells_made fields) in
    let thing = live (Fields class (cells_from store.cells_made fields)) in
    let objects = objects_more test store.objects ((store.objects_made, thing) ∷ []) in
    let one = one_object test store.objects_made thing refl in
    omega arith

pub new_table_moves : (store : Store) → ReferencesMove [] [] store (with_new_table store)
new_table_moves store test =
    let before = parts test store in
    let after = parts test (with_new_table store) in
    let objects = objects_more test store.objects ((store.objects_made, live (Entries no_entries)) ∷ []) in
    let one = one_object test store.objects_made (live (Entries no_entries)) refl in
    omega arith

-- ---- what is stored

in_array_items : (test : ℕ → Bool) (array : Array)
    → times test (Arr array) ≡ sum_by (times test) array.items
in_array_items test array = ap (count_by test) (references_arr array) ∙ counted test references array.items

-- the references of a value with another one at a place in it, where there is a value
Exact : (ℕ → Bool) → List (List ℤ) → Value → Type 0
Exact test steps new = (value old : Value) → value_in steps value ≡ Ok old
    → times test (with_value steps new value) + times test old
    ≡ times test value + times test new

item_moves : (test : ℕ → Bool) (change : Value → Value) (items : List Value) (at : ℕ) (item : Value)
    → Some item ≡ slice_get items at
    → sum_by (times test) (slice_set items at (change item)) + times test item
    ≡ sum_by (times test) items + times test (change item)
item_moves test change items at item there = elim ((slice_get_cases items at).1) [
  | inl here ↦
      let is : get_or items at item ≡ item = get_or_from_slice_get items at item item (sym there) in
      let swapped = sum_by-set (times test) items at (change item) item here.1 in
      rw is at swapped
  | inr past ↦ absurd (cc)
]

at_item : (test : ℕ → Bool) (steps : List (List ℤ)) (new : Value) → Exact test steps new → (array : Array) (at : ℕ)
    (found : Option Value) → found ≡ slice_get array.items at → (old : Value)
    → and_then (in_range found) (value_in steps) ≡ Ok old
    → times test (Arr (record array { items = items_changed (with_value steps new) array.items at found }))
    + times test old ≡ times test (Arr array) + times test new
unfolding Exact
at_item test steps new exact array at (Some item) there old is =
    let inner = exact item old is in
    let outer = item_moves test (with_value steps new) array.items at item there in
    let before = in_array_items test array in
    let after = in_array_items test
    (record array { items = slice_set array.items at (with_value steps new item) }) in
    rw (before, after) (omega arith)
at_item test steps new exact array at None there old is = absurd (cc)

in_array : (test : ℕ → Bool) (steps : List (List ℤ)) (new : Value) → Exact test steps new → (array : Array)
    (place : Option ℕ) (old : Value) → and_then (in_range (item_at array.items place)) (value_in steps) ≡ Ok old
    → times test (Arr (array_changed (with_value steps new) array place)) + times test old
    ≡ times test (Arr array) + times test new
in_array test steps new exact array (Some at) old is =
    at_item test steps new exact array at (slice_get array.items at) refl old is
in_array test steps new exact array None old is = absurd (cc)

in_part : (test : ℕ → Bool) (steps : List (List ℤ)) (new : Value) → Exact test steps new → (indices : List ℤ)
    (value old : Value) (part : Value-F Value Array) → roll-Value part ≡ value
    → and_then (item_of indices part) (value_in steps) ≡ Ok old
    → times test (item_changed (with_value steps new) indices value part) + times test old
    ≡ times test value + times test new
in_part test steps new exact indices value old (Value-F.Arr array) is found =
    let same : value ≡ Arr array = sym is ∙ rolls-Arr array in
    rw same (in_array test steps new exact array (position array.bounds indices) old found)
in_part test steps new exact indices value old _ is found = absurd (cc)

exact : (test : ℕ → Bool) (steps : List (List ℤ)) (new : Value) → Exact test steps new
unfolding Exact
exact test [] new value old is = let same : value ≡ old = cc in rw same (omega arith)
exact test (indices ∷ steps) new value old is = in_part test steps new (exact test steps new) indices value old
    (out-Value value) (roll-out-Value value) is

-- a value with another one at a place in it
pub value_moves : (test : ℕ → Bool) (steps : List (List ℤ)) (new value old : Value) → value_in steps value ≡ Ok old
    → times test (with_value steps new value) + times test old
    ≡ times test value + times test new
unfolding Exact
value_moves test steps new value old is = exact test steps new value old is

-- one cell's value is another one
replaced_one : (test : ℕ → Bool) (number : ℕ) (old new : Value) (cells : List (ℕ × Value))
    → numbered number cells ≡ Some old
    → in_cells test (replaced number new cells) + times test old
    ≡ in_cells test cells + times test new
replaced_one test number old new cells is = replaced_total (times test) number old new cells is

stored_in : (test : ℕ → Bool) (place : Place) (new old : Value) (store : Store) (found : Option Value)
    → numbered place.cell.0 store.cells ≡ found → and_then (value_there found) (value_in place.steps) ≡ Ok old
    → in_cells test (option_map_or
    (λ value. replaced place.cell.0 (with_value place.steps new value) store.cells) found store.cells)
    + times test old ≡ in_cells test store.cells + times test new
stored_in test place new old store (Some value) here is =
    let cell = replaced_one test place.cell.0 value (with_value place.steps new value) store.cells here in
    let inside = value_moves test place.steps new value old is in
    omega arith
stored_in test place new old store None here is = absurd (cc)

pub stored_moves : (place : Place) (new old : Value) (store : Store) → read_of place store ≡ Ok old
    → ReferencesMove (references old) (references new) store (with_stored place new store)
stored_moves place new old store is test =
    let before = parts test store in
    let after = parts test (with_stored place new store) in
    let cells = stored_in test place new old store (numbered place.cell.0 store.cells) refl is in
    omega arith
