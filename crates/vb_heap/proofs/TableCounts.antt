-- Counts of references that stay right as dictionaries change, whether or not there is one.
use Rattle.std.proofs.Common.{ℕ, suc, ◌≤◌, ◌≡◌, ◌∙◌, ℤ, List, [], ◌++◌, drop, take, length, remove, slice_get}
use Rattle.std.proofs.Common.{Option, Some, None, Result, Ok, Err, IsOk, refl, sym, ap, subst, append-nil, arith, inl, inr}
use Rattle.std.proofs.lemmas.List.{drop_all, take_all}
use Rattle.std.proofs.lemmas.Option.{slice_get_cases}
use Rattle.std.specs.Option.{option_map_or}
use Rattle.vb_value.specs.declared.fault.VbError.{VbError}
use Rattle.vb_value.specs.declared.session.Pair.{Pair}
use Rattle.vb_value.specs.declared.value.ObjNo.{ObjNo}
use Rattle.vb_value.specs.declared.value.Value.{Value}
use Rattle.vb_heap.specs.declared.object.Content.{Content}
use Rattle.vb_heap.specs.declared.object.Content.TheVariants.{Entries, Fields}
use Rattle.vb_heap.specs.declared.object.Object.{Object}
use Rattle.vb_heap.specs.Counted.{AreRight, HaveRoom, counts_less, counts_more, item_references, item_there}
use Rattle.vb_heap.specs.Counted.{items_there, reaching}
use Rattle.vb_heap.specs.Dictionary.{Dictionary}
use Rattle.vb_heap.specs.Entries.{content_changed, dictionary_in, dictionary_of, dictionary_there, emptied}
use Rattle.vb_heap.specs.Entries.{entry_dropped, entry_there, mode_set, object_changed, pair_added, pair_there}
use Rattle.vb_heap.specs.Entries.{with_dictionary, with_entry_set, with_mode, without_entries, without_entry}
use Rattle.vb_heap.specs.Limits.{most_held, most_weight}
use Rattle.vb_heap.specs.PageWeight.{weight_of_page}
use Rattle.vb_heap.specs.References.{references}
use Rattle.vb_heap.specs.Store.{Store, numbered, replaced}
use Rattle.vb_heap.proofs.Counting.{less_none}
use Rattle.vb_heap.proofs.CountsAfter.{added_item_counts, dropped_item_counts, dropped_items_counts, mode_counts}
use Rattle.vb_heap.proofs.CountsAfter.{set_item_counts}
use Rattle.vb_heap.proofs.ItemMoves.{added_item_moves, dropped_item_moves, dropped_items_move, mode_moves}
use Rattle.vb_heap.proofs.ItemMoves.{set_item_moves}
use Rattle.vb_heap.proofs.TableWeights.{same_value}
use Rattle.vb_heap.proofs.Tallying.{came_within, moved_within, still_right, went_right}

-- ---- what is not there doesn't change

same_object : (change : Dictionary → Dictionary) (thing : Object) (content : Content) (error : VbError)
    → thing.content ≡ content → dictionary_in content ≡ Err error → object_changed change thing ≡ thing
same_object change thing (Entries dictionary) error is none = absurd (cc)
same_object change thing (Fields class cells) error is none =
    ap (λ inside. record thing { content = inside }) (ap (content_changed change) is ∙ sym is)

same_objects : (change : Dictionary → Dictionary) (number : ℕ) (objects : List (ℕ × Object)) (found : Option Object)
    (error : VbError) → numbered number objects ≡ found → dictionary_there found ≡ Err error
    → option_map_or (λ object. replaced number (object_changed change object) objects) found objects ≡ objects
same_objects change number objects None error is none = refl
same_objects change number objects (Some thing) error is none =
    same_value objects number (object_changed change thing)
    (is ∙ ap Some (sym (same_object change thing thing.content error refl none)))

-- where there is no dictionary
no_table : (change : Dictionary → Dictionary) (table : ObjNo) (store : Store) (error : VbError)
    → dictionary_of table store ≡ Err error → with_dictionary change table store ≡ store
no_table change table store error none =
    ap (λ objects. record store { objects = objects })
    (same_objects change table.0 store.objects (numbered table.0 store.objects) error refl none)

past_all : {T : Type 0} (things : List T) (at : ℕ) → slice_get things at ≡ None → remove things at ≡ things
past_all things at none = elim ((slice_get_cases things at).1) [
  | inl here ↦ absurd (cc)
  | inr past ↦
      ap (λ first. first ++ drop (suc at) things) (take_all at things past.0)
      ∙ (ap (λ last. things ++ last) (drop_all (suc at) things (omega (arith, past.0))) ∙ append-nil things)
]

-- where there is no such entry
no_pair : (at : ℕ) (table : ObjNo) (store : Store) (found : Dictionary) → dictionary_of table store ≡ Ok found
    → slice_get found.pairs at ≡ None → without_entry table at store ≡ store
no_pair at table store found said none =
    ap (λ objects. record store { objects = objects })
    (by store.objects (numbered table.0 store.objects) refl said)
  where
    same : (thing : Object) (content : Content) → thing.content ≡ content → dictionary_in content ≡ Ok found
        → object_changed (entry_dropped at) thing ≡ thing
    same thing (Fields class cells) is said = absurd (cc)
    same thing (Entries dictionary) is said =
        let one : dictionary ≡ found = cc in
        let stays : entry_dropped at dictionary ≡ dictionary =
        ap (λ pairs. record dictionary { pairs = pairs })
        (past_all dictionary.pairs at (ap (λ (table : Dictionary). slice_get table.pairs at) one ∙ none)) in
        ap (λ inside. record thing { content = inside })
        (ap (content_changed (entry_dropped at)) is ∙ (ap (λ table. Entries table) stays ∙ sym is))

    by : (objects : List (ℕ × Object)) (thing : Option Object) → numbered table.0 objects ≡ thing
        → dictionary_there thing ≡ Ok found
        → option_map_or (λ object. replaced table.0 (object_changed (entry_dropped at) object) objects) thing objects
        ≡ objects
    by objects None is said = absurd (cc)
    by objects (Some thing) is said =
        same_value objects table.0 (object_changed (entry_dropped at) thing)
        (is ∙ ap Some (sym (same thing thing.content refl said)))

module _ (store : Store) (counts after : List (ℕ × ℕ)) (top : ℕ) (right : AreRight counts top store) (table : ObjNo) where
  -- where nothing goes
  unmoved : (new : Store) → new ≡ store → after ≡ counts_less [] counts → AreRight after top new
  unmoved new same told =
      subst (λ store. AreRight after top store) (sym same)
      (subst (λ all. AreRight all top store) (sym (told ∙ less_none counts)) right)

  -- how the keys compare
  pub mode_right : (mode : ℤ) → after ≡ counts → AreRight after top (with_mode table mode store)
  mode_right mode told = by (dictionary_of table store) refl
    where
      by : (found : Result Dictionary VbError) → dictionary_of table store ≡ found
          → AreRight after top (with_mode table mode store)
      by (Ok found) said =
          still_right store (with_mode table mode store) counts after top right (mode_moves table mode store found said)
          (mode_counts table mode store found said) told
      by (Err error) said =
          unmoved (with_mode table mode store) (no_table (mode_set mode) table store error said)
          (told ∙ sym (less_none counts))

  -- all entries go
  pub emptied_right : after ≡ counts_less (items_there (dictionary_of table store)) counts
      → AreRight after top (without_entries table store)
  emptied_right told = by (dictionary_of table store) refl told
    where
      by : (found : Result Dictionary VbError) → dictionary_of table store ≡ found
          → after ≡ counts_less (items_there found) counts → AreRight after top (without_entries table store)
      by (Ok found) said told =
          went_right store (without_entries table store) counts after top right (item_references found)
          (dropped_items_move table store found said) (dropped_items_counts table store found said) told
      by (Err error) said told =
          unmoved (without_entries table store) (no_table emptied table store error said) told

  -- one entry goes
  pub dropped_right : (at : ℕ) → after ≡ counts_less (item_there (entry_there at (dictionary_of table store))) counts
      → AreRight after top (without_entry table at store)
  dropped_right at told = by (dictionary_of table store) refl told
    where
      at_place : (found : Dictionary) → dictionary_of table store ≡ Ok found → (pair : Option Pair)
          → slice_get found.pairs at ≡ pair → after ≡ counts_less (item_there (pair_there pair)) counts
          → AreRight after top (without_entry table at store)
      at_place found said (Some pair) there told =
          went_right store (without_entry table at store) counts after top right (references pair.item)
          (dropped_item_moves table at store found pair said there)
          (dropped_item_counts table at store found pair said there) told
      at_place found said None there told =
          unmoved (without_entry table at store) (no_pair at table store found said there) told

      by : (found : Result Dictionary VbError) → dictionary_of table store ≡ found
          → after ≡ counts_less (item_there (entry_there at found)) counts
          → AreRight after top (without_entry table at store)
      by (Ok found) said told = at_place found said (slice_get found.pairs at) refl told
      by (Err error) said told =
          unmoved (without_entry table at store) (no_table (entry_dropped at) table store error said) told

  -- an entry more
  pub added_right : (pair : Pair) (greater : ℕ) → IsOk (dictionary_of table store)
      → (HaveRoom (references pair.item) counts → after ≡ counts_more (references pair.item) counts)
      → top ≤ greater → reaching greater (references pair.item) ≡ 0
      → weight_of_page (with_dictionary (pair_added pair) table store) ≤ most_weight → length store.held ≤ most_held
      → AreRight after greater (with_dictionary (pair_added pair) table store)
  added_right pair greater is told within below light few = by (dictionary_of table store) refl is
    where
      by : (found : Result Dictionary VbError) → dictionary_of table store ≡ found → IsOk found
          → AreRight after greater (with_dictionary (pair_added pair) table store)
      by (Ok found) said is =
          came_within store (with_dictionary (pair_added pair) table store) counts after top right greater
          (references pair.item) (added_item_moves table pair.key pair.item store found said)
          (added_item_counts table pair.key pair.item store found said) told within below light few
      by (Err error) said is = absurd (cc)

  -- another item in an entry
  pub set_right : (at : ℕ) (item : Value) (middle : List (ℕ × ℕ)) (greater : ℕ)
      → IsOk (entry_there at (dictionary_of table store))
      → middle ≡ counts_less (item_there (entry_there at (dictionary_of table store))) counts
      → (HaveRoom (references item) middle → after ≡ counts_more (references item) middle)
      → top ≤ greater → reaching greater (references item) ≡ 0
      → weight_of_page (with_entry_set table at item store) ≤ most_weight → length store.held ≤ most_held
      → AreRight after greater (with_entry_set table at item store)
  set_right at item middle greater is less told within below light few = by (dictionary_of table store) refl is less
    where
      at_place : (found : Dictionary) → dictionary_of table store ≡ Ok found → (pair : Option Pair)
          → slice_get found.pairs at ≡ pair → IsOk (pair_there pair)
          → middle ≡ counts_less (item_there (pair_there pair)) counts
          → AreRight after greater (with_entry_set table at item store)
      at_place found said (Some pair) there is less =
          moved_within store (with_entry_set table at item store) counts after top right middle greater
          (references pair.item) (references item) (set_item_moves table at item store found pair said there)
          (set_item_counts table at item store found pair said there) less told within below light few
      at_place found said None there is less = absurd (cc)

      by : (found : Result Dictionary VbError) → dictionary_of table store ≡ found → IsOk (entry_there at found)
          → middle ≡ counts_less (item_there (entry_there at found)) counts
          → AreRight after greater (with_entry_set table at item store)
      by (Ok found) said is less = at_place found said (slice_get found.pairs at) refl is less
      by (Err error) said is less = absurd (cc)
