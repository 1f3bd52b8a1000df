-- Arrays in the place of what a variable held: what is refused because it weighs too much, before it is made whole.
use Rattle.std.proofs.Common.{◌≡◌, ℕ, zero, suc, ◌+◌, ◌*◌, ◌-◌, ◌^◌, ◌<◌, ◌≤◌, min, max, nat_lt, Bool, true, false, List}
use Rattle.std.proofs.Common.{◌++◌, map, fold, take, length, replicate, sum_by, ℤ, Option, Some, None}
use Rattle.std.proofs.Common.{refl, sym, subst, ap, ◌∙◌, arith}
use Rattle.std.proofs.Common.{Result, Ok, Err, nat_le, cond}
use Rattle.std.specs.Map.{values_of}
use Rattle.std.proofs.lemmas.List.{take_all, map-append, append-nil}
use Rattle.std.proofs.lemmas.List.Sums.{sum_by-append, fold-append}
use Rattle.std.proofs.lemmas.List.Folds.{sum_by-replicate}
use Rattle.std.proofs.lemmas.Bool.Decides.{nat_tests}
use Rattle.vb_value.specs.declared.limit.LimitKind.TheVariants.{Data, Nest}
use Rattle.vb_value.specs.declared.value.Array.{Array}
use Rattle.vb_value.specs.declared.value.Value.{Value, Empty}
use Rattle.vb_value.specs.declared.value.Value.TheViews.{Arr}
use Rattle.vb_value.specs.Errors.{and_then}
use Rattle.vb_value.specs.Plain.{depth_of, value_depth, array_depth, greatest}
use Rattle.vb_value.specs.Sound.{item_count}
use Rattle.vb_value.specs.Weight.{weight_of}
use Rattle.vb_heap.specs.declared.fault.HeapStop.TheVariants.{Limit}
use Rattle.vb_heap.specs.declared.place.Place.{Place}
use Rattle.vb_heap.specs.Cells.{read_of, store_of, with_stored, value_there}
use Rattle.vb_heap.specs.Limits.{is_too_deep}
use Rattle.vb_heap.specs.PageWeight.{weight_of_page}
use Rattle.vb_heap.specs.Places.{value_in}
use Rattle.vb_heap.specs.Store.{Store, numbered}
use Rattle.vb_heap.proofs.CellWeights.{weight_put, cell_within}
use Rattle.vb_heap.proofs.Fitting.{too_heavy, answer_heavy, answer_flat}
use Rattle.vb_heap.proofs.Values.{fold-Arr}
use Rattle.vb_heap.proofs.ValueWeights.{weight_arr, empty_weight, part_within}
use Rattle.vb_meaning.specs.World.{World}
use Rattle.vb_meaning.specs.State.{on_store, store_answer, with_store}
use Rattle.vb_meaning.specs.Statements.{array_into, items_kept, preserved}
use Rattle.vb_meaning.specs.Step.{Step, Ends, Ran}
use Rattle.vb_meaning.specs.declared.stop.Stop.{Stop}
use Rattle.vb_meaning.specs.Values.{empty_array}
use Rattle.vb_meaning.specs.declared.stop.Stop.TheVariants as stop
use Rattle.vb_world.specs.Kept.{kept, most_kept}
use Rattle.vb_world.proofs.EmptyArrays.{empty_array_weight, none_deep, empty_depth as empty_value_depth}

-- fewer items than there were, and more
pub kept_fewer : (items : List Value) (count : ℕ) → count ≤ length items → items_kept items count ≡ take count items
kept_fewer items count fewer = let none : count - length items ≡ 0 = omega arith in rw none (append-nil (take count items))

pub kept_all : (items : List Value) (count : ℕ) → length items < count
    → items_kept items count ≡ items ++ replicate (count - length items) Empty
kept_all items count more = let all : take count items ≡ items = take_all count items (omega arith) in rw all refl

-- what is at a place weighs no more than the page
in_found : (store : Store) (place : Place) (old : Value) (found : Option Value) → found ≡ numbered place.cell.0 store.cells
    → and_then (value_there found) (value_in place.steps) ≡ Ok old
    → weight_of old ≤ sum_by weight_of (values_of store.cells)
in_found store place old (Some value) is there =
    let part = part_within place.steps value old there in
    let whole = cell_within store.cells place.cell.0 value is in
    omega arith
in_found store place old None is there = absurd (cc)

-- a page weighs at least what was put at a place of it
put_within : (store : Store) (place : Place) (old new : Value) → read_of place store ≡ Ok old
    → weight_of new ≤ weight_of_page (with_stored place new store)
put_within store place old new there =
    let within = in_found store place old (numbered place.cell.0 store.cells) refl there in
    let both = weight_put store.cells place.cell.0 place.steps new (weight_of old) (rw there refl) in
    omega arith

-- what is too heavy is refused
pub refused_heavy : (store : Store) (place : Place) (old new : Value) → read_of place store ≡ Ok old
    → 16777216 < weight_of new → is_too_deep (length place.steps) new ≡ false
    → store_of place new store ≡ Err (Limit Data)
refused_heavy store place old new there heavy flat =
    let least = put_within store place old new there in
    rw there (answer_flat (length place.steps) new (with_stored place new store) tt flat
    ∙ answer_heavy (with_stored place new store) tt (too_heavy (with_stored place new store) (omega arith)))

-- what would lie too deep is refused first
pub refused_deep : (store : Store) (place : Place) (old new : Value) → read_of place store ≡ Ok old
    → is_too_deep (length place.steps) new ≡ true → store_of place new store ≡ Err (Limit Nest)
refused_deep store place old new there deep = rw there (rw deep refl)

-- ---- an array of Empty items

empty_depth : (bounds : List ℤ) → depth_of (Arr (empty_array false bounds)) ≡ 1
empty_depth bounds =
    fold-Arr ℕ ℕ value_depth array_depth (empty_array false bounds) ∙ ap (λ n. 1 + n) (none_deep (item_count bounds))

module _ (place : Place) (bounds : List ℤ) (old : Value) (world : World)
    (there : read_of place world.store ≡ Ok old) where
  -- one that weighs too much
  pub into_heavy : 524288 ≤ min (item_count bounds) (2 ^ 64 - 1) → length place.steps < 64
      → array_into place bounds world ≡ Ends (stop.Limit Data None) world
  into_heavy heavy flat =
      let array = Arr (empty_array false bounds) in
      let weight = empty_array_weight false bounds in
      let deep : is_too_deep (length place.steps) array ≡ false = rw (empty_depth bounds) (grind (arith, nat_tests)) in
      ap (λ answer. store_answer answer (with_store (with_stored place array) world) world)
      (refused_heavy world.store place old array there (omega arith) deep)

  -- one that would lie too deep
  pub into_deep : 64 ≤ length place.steps → array_into place bounds world ≡ Ends (stop.Limit Nest None) world
  into_deep below =
      let array = Arr (empty_array false bounds) in
      let deep : is_too_deep (length place.steps) array ≡ true = rw (empty_depth bounds) (grind (arith, nat_tests)) in
      ap (λ answer. store_answer answer (with_store (with_stored place array) world) world)
      (refused_deep world.store place old array there deep)

-- ---- an array with the items that were there

heavy_kept : (array : Array) (bounds : List ℤ) (count : ℕ) → length array.items + 524288 ≤ count
    → 16777216 < weight_of (Arr (kept array bounds count))
heavy_kept array bounds count many =
    let more = count - length array.items in
    let whole = weight_arr (kept array bounds count) in
    let parts = ap (sum_by weight_of) (kept_all array.items count (omega arith))
    ∙ sum_by-append weight_of array.items (replicate more Empty) in
    let added = sum_by-replicate weight_of more Empty ∙ ap (λ n. more * n) empty_weight in
    omega arith

no_deeper : (depth count : ℕ) → fold max depth (map depth_of (replicate count Empty)) ≡ depth
no_deeper depth zero = refl
no_deeper depth (suc count) =
    let same : max depth (depth_of Empty) ≡ depth = rw empty_value_depth (omega arith) in
    ap (λ d. fold max d (map depth_of (replicate count Empty))) same ∙ no_deeper depth count

deepest_kept : (items : List Value) (count : ℕ) → length items < count
    → greatest (map depth_of (items_kept items count)) ≡ greatest (map depth_of items)
deepest_kept items count more =
    let added = replicate (count - length items) Empty in
    ap (λ all. greatest (map depth_of all)) (kept_all items count more)
    ∙ (ap greatest (map-append depth_of items added)
    ∙ (fold-append max 0 (map depth_of items) (map depth_of added)
    ∙ no_deeper (greatest (map depth_of items)) (count - length items)))

depth_kept : (array : Array) (bounds : List ℤ) (count : ℕ) → length array.items < count
    → depth_of (Arr (kept array bounds count)) ≡ 1 + greatest (map depth_of array.items)
depth_kept array bounds count more =
    fold-Arr ℕ ℕ value_depth array_depth (kept array bounds count)
    ∙ ap (λ n. 1 + n) (deepest_kept array.items count more)

module _ (place : Place) (array : Array) (bounds : List ℤ) (old : Value) (world : World)
    (there : read_of place world.store ≡ Ok old) where
  -- the array of so many items in its place
  abbrev pub into_kept : ℕ → Step World (Unit {0})
  into_kept count = on_store (store_of place (Arr (kept array bounds count)))
      (with_stored place (Arr (kept array bounds count))) world

  refused_kept : (count : ℕ) → length array.items + 524288 ≤ count → (deep : Bool)
      → nat_lt 64 (length place.steps + (1 + greatest (map depth_of array.items))) ≡ deep
      → into_kept count ≡ cond deep (Ends (stop.Limit Nest None) world) (Ends (stop.Limit Data None) world)
  refused_kept count many true is =
      let depth = depth_kept array bounds count (omega arith) in
      ap (λ answer. store_answer answer (with_store (with_stored place (Arr (kept array bounds count))) world) world)
      (refused_deep world.store place old (Arr (kept array bounds count)) there (rw depth is))
  refused_kept count many false is =
      let depth = depth_kept array bounds count (omega arith) in
      ap (λ answer. store_answer answer (with_store (with_stored place (Arr (kept array bounds count))) world) world)
      (refused_heavy world.store place old (Arr (kept array bounds count)) there (heavy_kept array bounds count many)
      (rw depth is))

  kept_alike : (few : Bool) → nat_le (item_count bounds) (length array.items + 524288) ≡ few
      → into_kept (most_kept array bounds) ≡ into_kept (item_count bounds)
  kept_alike true is =
      let same : most_kept array bounds ≡ item_count bounds = grind (arith, nat_tests) in ap into_kept same
  kept_alike false is =
      let deep = nat_lt 64 (length place.steps + (1 + greatest (map depth_of array.items))) in
      let many : length array.items + 524288 ≤ item_count bounds = grind (arith, nat_tests) in
      refused_kept (most_kept array bounds) (omega arith) deep refl
      ∙ sym (refused_kept (item_count bounds) many deep refl)

  -- no more items need be made than make it too heavy
  into_preserved : into_kept (most_kept array bounds) ≡ on_store (store_of place (Arr (preserved array bounds)))
      (with_stored place (Arr (preserved array bounds))) world
  into_preserved = kept_alike (nat_le (item_count bounds) (length array.items + 524288)) refl

-- what the array that is made shows, the whole array shows
pub kept_shown : (place : Place) (array : Array) (bounds : List ℤ) (old : Value) (world : World)
    → read_of place world.store ≡ Ok old → (result : Result (Unit {0}) Stop) (new : World)
    → Ran (on_store (store_of place (Arr (kept array bounds (most_kept array bounds))))
    (with_stored place (Arr (kept array bounds (most_kept array bounds)))) world) result new
    → Ran (on_store (store_of place (Arr (preserved array bounds))) (with_stored place (Arr (preserved array bounds)))
    world) result new
kept_shown place array bounds old world there result new ran =
    subst (λ step. Ran step result new) (into_preserved place array bounds old world there) ran
