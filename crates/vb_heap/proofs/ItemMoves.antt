-- How references come and go with the entries of dictionaries and with objects that end.
use Rattle.std.proofs.Common.{ℕ, zero, suc, ◌+◌, ◌≡◌, ◌∙◌, ◌==◌, Bool, true, false, if◌then◌else◌, ℤ, List, [], ◌∷◌}
use Rattle.std.proofs.Common.{length, remove, slice_get, slice_set, sum_by, get_or, Option, Some, None, Result, Ok}
use Rattle.std.proofs.Common.{refl, ap, inl, inr, arith}
use Rattle.std.specs.Prelude.{count_by}
use Rattle.std.proofs.lemmas.List.Sums.{sum_by-append, sum_by-cons, sum_by-set}
use Rattle.std.proofs.lemmas.Option.{get_or_from_slice_get, slice_get_cases}
use Rattle.std.specs.Option.{option_map_or}
use Rattle.vb_value.specs.declared.fault.VbError.{VbError}
use Rattle.vb_value.specs.declared.session.Pair.{Pair}
use Rattle.vb_value.specs.declared.value.ObjNo.{ObjNo}
use Rattle.vb_value.specs.declared.value.Value.{Value}
use Rattle.vb_heap.specs.declared.object.Content.{Content}
use Rattle.vb_heap.specs.declared.object.Content.TheVariants.{Entries, Fields}
use Rattle.vb_heap.specs.declared.object.Object.{Object}
use Rattle.vb_heap.specs.declared.place.CellNo.{CellNo}
use Rattle.vb_heap.specs.Counted.{ReferencesMove, field_references, item_references}
use Rattle.vb_heap.specs.Dictionary.{Dictionary}
use Rattle.vb_heap.specs.Entries.{content_changed, dictionary_in, dictionary_of, dictionary_there, emptied, entry_added}
use Rattle.vb_heap.specs.Entries.{entry_dropped, item_set, mode_set, object_changed, with_dictionary, with_item}
use Rattle.vb_heap.specs.Entries.{with_entry}
use Rattle.vb_heap.specs.Entries.{with_entry_set, with_mode, without_entries, without_entry}
use Rattle.vb_heap.specs.References.{all_references, content_references, object_references, references}
use Rattle.vb_heap.specs.Releases.{ending, fields_of, finished, with_ending, without_all, without_fields}
use Rattle.vb_heap.specs.Releases.{without_object}
use Rattle.vb_heap.specs.Store.{Store, is_number, numbered, replaced, without}
use Rattle.vb_heap.proofs.Moves.{in_cells, in_objects, parts, times, without_one}
use Rattle.vb_heap.proofs.Sums.{counted, counted_both, replaced_total, without_total}

-- how many of the references of the items of a dictionary pass a test
abbrev pub times_in_items : (ℕ → Bool) → Dictionary → ℕ
times_in_items test dictionary = sum_by (λ (pair : Pair). times test pair.item) dictionary.pairs

-- ---- one dictionary

-- the references of an object that pass a test
abbrev of_object : (ℕ → Bool) → Object → ℕ
of_object test thing = count_by test (object_references thing)

in_content : (test : ℕ → Bool) (content : Content) (found : Dictionary) → content ≡ Entries found
    → count_by test (content_references content) ≡ times_in_items test found
in_content test content found is = ap (λ inside. count_by test (content_references inside)) is
    ∙ counted test (λ (pair : Pair). references pair.item) found.pairs

-- the references of its items, item by item
pub of_items : (test : ℕ → Bool) (found : Dictionary)
    → count_by test (item_references found) ≡ times_in_items test found
of_items test found = counted test (λ (pair : Pair). references pair.item) found.pairs

abbrev answer : Dictionary → Result Dictionary VbError
answer dictionary = Ok dictionary

same_dictionary : (one other : Dictionary) → answer one ≡ answer other → one ≡ other
same_dictionary one other same = cc

-- what a dictionary's object is, once it is found
entries_there : (thing : Object) (content : Content) (found : Dictionary) → thing.content ≡ content
    → dictionary_in content ≡ Ok found → thing.content ≡ Entries found
entries_there thing (Entries dictionary) found is said =
    is ∙ ap (λ inside. Entries inside) (same_dictionary dictionary found said)
entries_there thing (Fields class cells) found is said = absurd (cc)

-- the references of the objects with one dictionary changed
changed_at : (test : ℕ → Bool) (change : Dictionary → Dictionary) (table : ℕ) (objects : List (ℕ × Object))
    (found : Dictionary) (thing : Option Object) → numbered table objects ≡ thing → dictionary_there thing ≡ Ok found
    → in_objects test (option_map_or
    (λ one. replaced table (object_changed change one) objects) thing objects) + times_in_items test found
    ≡ in_objects test objects + times_in_items test (change found)
changed_at test change table objects found None is said = absurd (cc)
changed_at test change table objects found (Some thing) is said =
    let entries = entries_there thing thing.content found refl said in
    let before : of_object test thing ≡ times_in_items test found = in_content test thing.content found entries in
    let after : of_object test (object_changed change thing) ≡ times_in_items test (change found) =
    in_content test (content_changed change thing.content) (change found) (ap (content_changed change) entries) in
    let whole = replaced_total (of_object test) table thing (object_changed change thing) objects is in
    omega (arith, before, after, whole)

changed_refers : (test : ℕ → Bool) (change : Dictionary → Dictionary) (table : ObjNo) (store : Store)
    (found : Dictionary)
    → dictionary_of table store ≡ Ok found
    → count_by test (all_references (with_dictionary change table store)) + times_in_items test found
    ≡ count_by test (all_references store) + times_in_items test (change found)
changed_refers test change table store found said =
    let before = parts test store in
    let after = parts test (with_dictionary change table store) in
    let inside = changed_at test change table.0 store.objects found (numbered table.0 store.objects) refl said in
    omega (arith, before, after, inside)

-- ---- entries

pub added_item_moves : (table : ObjNo) (key item : Value) (store : Store) (found : Dictionary)
    → dictionary_of table store ≡ Ok found
    → ReferencesMove [] (references item) store (with_entry table key item store)
added_item_moves table key item store found said test =
    let whole = changed_refers test (entry_added key item) table store found said in
    let more = sum_by-append (λ (pair : Pair). times test pair.item) found.pairs
    (record { key = key; item = item } ∷ []) in
    let one = sum_by-cons (λ (pair : Pair). times test pair.item) (record { key = key; item = item }) [] in
    omega (arith, whole, more, one)

-- the items of a list of entries with one of them changed
pairs_set : (test : ℕ → Bool) (pairs : List Pair) (at : ℕ) (item : Value) (pair : Pair) → slice_get pairs at ≡ Some pair
    → sum_by (λ (pair : Pair). times test pair.item) (slice_set pairs at (with_item item pair))
    + times test pair.item
    ≡ sum_by (λ (pair : Pair). times test pair.item) pairs + times test item
pairs_set test pairs at item pair there = elim ((slice_get_cases pairs at).1) [
  | inl here ↦
      let is : get_or pairs at pair ≡ pair = get_or_from_slice_get pairs at pair pair there in
      let swapped = sum_by-set (λ (pair : Pair). times test pair.item) pairs at (with_item item pair)
      pair here.1 in
      rw is at swapped
  | inr past ↦ absurd (cc)
]

pub set_item_moves : (table : ObjNo) (at : ℕ) (item : Value) (store : Store) (found : Dictionary) (pair : Pair)
    → dictionary_of table store ≡ Ok found → slice_get found.pairs at ≡ Some pair
    → ReferencesMove (references pair.item) (references item) store (with_entry_set table at item store)
set_item_moves table at item store found pair said there test =
    let whole = changed_refers test (item_set at item) table store found said in
    let inside : times_in_items test (item_set at item found)
    ≡ sum_by (λ (pair : Pair). times test pair.item) (slice_set found.pairs at (with_item item pair)) =
    ap (λ one. sum_by (λ (pair : Pair). times test pair.item)
    (option_map_or (λ pair. slice_set found.pairs at (with_item item pair)) one found.pairs)) there in
    let set = pairs_set test found.pairs at item pair there in
    omega (arith, whole, inside, set)

-- the items of a list of entries without one of them
pairs_less : (test : ℕ → Bool) (pairs : List Pair) (at : ℕ) (pair : Pair) → slice_get pairs at ≡ Some pair
    → sum_by (λ (pair : Pair). times test pair.item) (remove pairs at) + times test pair.item
    ≡ sum_by (λ (pair : Pair). times test pair.item) pairs
pairs_less test [] at pair there = absurd (cc)
pairs_less test (first ∷ others) zero pair there =
    let one : first ≡ pair = cc in
    let weighs = ap (λ (pair : Pair). times test pair.item) one in
    let all = sum_by-cons (λ (pair : Pair). times test pair.item) first others in
    omega (arith, weighs, all)
pairs_less test (first ∷ others) (suc at) pair there =
    let rest = pairs_less test others at pair there in
    let all = sum_by-cons (λ (pair : Pair). times test pair.item) first others in
    let less = sum_by-cons (λ (pair : Pair). times test pair.item) first (remove others at) in
    omega (arith, rest, all, less)

pub dropped_item_moves : (table : ObjNo) (at : ℕ) (store : Store) (found : Dictionary) (pair : Pair)
    → dictionary_of table store ≡ Ok found → slice_get found.pairs at ≡ Some pair
    → ReferencesMove (references pair.item) [] store (without_entry table at store)
dropped_item_moves table at store found pair said there test =
    let whole = changed_refers test (entry_dropped at) table store found said in
    let less = pairs_less test found.pairs at pair there in
    omega (arith, whole, less)

pub dropped_items_move : (table : ObjNo) (store : Store) (found : Dictionary) → dictionary_of table store ≡ Ok found
    → ReferencesMove (item_references found) [] store (without_entries table store)
dropped_items_move table store found said test =
    let whole = changed_refers test emptied table store found said in
    let items = of_items test found in
    omega (arith, whole, items)

-- how the keys of a dictionary compare moves nothing
pub mode_moves : (table : ObjNo) (mode : ℤ) (store : Store) (found : Dictionary) → dictionary_of table store ≡ Ok found
    → ReferencesMove [] [] store (with_mode table mode store)
mode_moves table mode store found said test =
    let whole = changed_refers test (mode_set mode) table store found said in
    let same : times_in_items test (mode_set mode found) ≡ times_in_items test found =
    by (length found.pairs == 0) in
    omega (arith, whole, same)
  where
    by : (none : Bool)
        → times_in_items test (if none then record found { mode = mode } else found) ≡ times_in_items test found
    by true = refl
    by false = refl

-- ---- an object that ends

-- marking an object as ending moves nothing
marked : (test : ℕ → Bool) (number : ℕ) (objects : List (ℕ × Object)) (found : Option Object)
    → numbered number objects ≡ found
    → in_objects test (option_map_or (λ object. replaced number (ending object) objects) found objects)
    ≡ in_objects test objects
marked test number objects None is = refl
marked test number objects (Some thing) is =
    let whole = replaced_total (of_object test) number thing (ending thing) objects is in
    omega (arith, whole)

pub ending_moves : (named : Option ℕ) (store : Store) → ReferencesMove [] [] store (with_ending named store)
ending_moves None store test = refl
ending_moves (Some number) store test =
    let before = parts test store in
    let after = parts test (with_ending (Some number) store) in
    let same = marked test number store.objects (numbered number store.objects) refl in
    omega (arith, before, after, same)

-- the data without an ending object
pub ended_is : (ended : ℕ) (thing : Object) (store : Store) → thing.ending ≡ true
    → finished ended (Some thing) store ≡ without_object ended (Some thing) store
ended_is ended thing store ending =
    ap (λ b. if b then without_object ended (Some thing) store else store) ending

pub ended_table_moves : (ended : ℕ) (thing : Object) (found : Dictionary) (store : Store)
    → numbered ended store.objects ≡ Some thing → thing.content ≡ Entries found
    → ReferencesMove (item_references found) [] store (without_object ended (Some thing) store)
ended_table_moves ended thing found store is entries test =
    let before = parts test store in
    let after = parts test (without_object ended (Some thing) store) in
    let less = without_total (of_object test) ended thing store.objects is in
    let own : of_object test thing ≡ times_in_items test found = in_content test thing.content found entries in
    let items = of_items test found in
    let cells : without_fields (Some thing) store.cells ≡ store.cells =
    ap (λ content. without_all (fields_of content) store.cells) entries in
    let same = ap (in_cells test) cells in
    omega (arith, before, after, less, own, items, same)

-- what is not there does not go
pub none_goes : {T : Type 0} (number : ℕ) (things : List (ℕ × T)) → numbered number things ≡ None
    → without number things ≡ things
none_goes number [] is = refl
none_goes number (first ∷ others) is = by (is_number number first.0) is (none_goes number others)
  where
    by : (here : Bool) → (if here then Some first.1 else numbered number others) ≡ None
        → (numbered number others ≡ None → without number others ≡ others)
        → (if here then others else first ∷ without number others) ≡ first ∷ others
    by true found deeper = absurd (cc)
    by false found deeper = ap (λ rest. first ∷ rest) (deeper found)

-- the values of cells that go
cells_less : (test : ℕ → Bool) (fields : List CellNo) (cells : List (ℕ × Value))
    → in_cells test (without_all fields cells) + count_by test (field_references fields cells) ≡ in_cells test cells
cells_less test [] cells = omega arith
cells_less test (first ∷ others) cells =
    let one = gone (numbered first.0 cells) refl in
    let rest = cells_less test others (without first.0 cells) in
    let both = counted_both test (option_map_or references (numbered first.0 cells) [])
    (field_references others (without first.0 cells)) in
    omega (arith, one, rest, both)
  where
    gone : (found : Option Value) → numbered first.0 cells ≡ found
        → in_cells test (without first.0 cells) + count_by test (option_map_or references found [])
        ≡ in_cells test cells
    gone (Some value) is = without_one test first.0 value cells is
    gone None is = ap (λ rest. in_cells test rest + 0) (none_goes first.0 cells is) ∙ omega arith

pub ended_object_moves : (ended class : ℕ) (thing : Object) (fields : List CellNo) (store : Store)
    → numbered ended store.objects ≡ Some thing → thing.content ≡ Fields class fields
    → ReferencesMove (field_references fields store.cells) [] store (without_object ended (Some thing) store)
ended_object_moves ended class thing fields store is inside test =
    let before = parts test store in
    let after = parts test (without_object ended (Some thing) store) in
    let less = without_total (of_object test) ended thing store.objects is in
    let own : of_object test thing ≡ 0 = ap (λ content. count_by test (content_references content)) inside in
    let same : in_cells test (without_fields (Some thing) store.cells)
    ≡ in_cells test (without_all fields store.cells) =
    ap (λ content. in_cells test (without_all (fields_of content) store.cells)) inside in
    let gone = cells_less test fields store.cells in
    omega (arith, before, after, less, own, same, gone)
