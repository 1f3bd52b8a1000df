-- What an array of Empty items weighs, how deep it nests, and when a page has no room for it.
use Rattle.std.proofs.Common.{◌≡◌, ℕ, zero, suc, ◌+◌, ◌*◌, ◌-◌, ◌^◌, ◌<◌, min, max, nat_lt, Bool, true, false, List}
use Rattle.std.proofs.Common.{map, fold, replicate, refl, sym, ap, ◌∙◌, arith, ℤ, Err}
use Rattle.std.proofs.lemmas.List.Folds.{sum_by-replicate}
use Rattle.std.proofs.lemmas.Bool.Decides.{nat_tests}
use Rattle.vb_value.specs.declared.limit.LimitKind.TheVariants.{Data}
use Rattle.vb_value.specs.declared.value.Value.{Empty}
use Rattle.vb_value.specs.declared.value.Value.TheOpen.{Value-F}
use Rattle.vb_value.specs.declared.value.Value.TheFolds.{fold-roll-Value}
use Rattle.vb_value.specs.declared.value.Value.TheViews.{Arr, rolls-Empty}
use Rattle.vb_value.specs.Plain.{depth_of, value_depth, array_depth, greatest}
use Rattle.vb_value.specs.Sound.{item_count}
use Rattle.vb_value.specs.Weight.{weight_of}
use Rattle.vb_heap.specs.declared.fault.HeapStop.TheVariants.{Limit}
use Rattle.vb_heap.specs.declared.place.CellNo.{CellNo}
use Rattle.vb_heap.specs.Cells.{new_cell_of, with_new_cell}
use Rattle.vb_heap.specs.Limits.{most_weight, is_too_deep}
use Rattle.vb_heap.specs.PageWeight.{weight_of_page}
use Rattle.vb_heap.specs.Store.{Store}
use Rattle.vb_heap.proofs.Fitting.{too_heavy, answer_heavy, answer_flat}
use Rattle.vb_heap.proofs.Keeping.{weight_more}
use Rattle.vb_heap.proofs.Values.{fold-Arr}
use Rattle.vb_heap.proofs.ValueWeights.{weight_arr, empty_weight}
use Rattle.vb_meaning.specs.Values.{empty_array}

-- 32, and 32 an item
pub empty_array_weight : (fixed : Bool) (bounds : List ℤ)
    → weight_of (Arr (empty_array fixed bounds)) ≡ 32 + 32 * item_count bounds
empty_array_weight fixed bounds =
    weight_arr (empty_array fixed bounds)
    ∙ ap (λ n. 32 + n) (sum_by-replicate weight_of (item_count bounds) Empty
    ∙ (ap (λ n. item_count bounds * n) empty_weight ∙ omega arith))

pub empty_depth : depth_of Empty ≡ 0
empty_depth = ap depth_of (sym rolls-Empty) ∙ fold-roll-Value ℕ ℕ value_depth array_depth Value-F.Empty

pub none_deep : (count : ℕ) → greatest (map depth_of (replicate count Empty)) ≡ 0
none_deep zero = refl
none_deep (suc count) =
    ap (λ depth. fold max (max 0 depth) (map depth_of (replicate count Empty))) empty_depth ∙ none_deep count

-- it does not nest too deep
pub empty_array_flat : (fixed : Bool) (bounds : List ℤ) → is_too_deep 0 (Arr (empty_array fixed bounds)) ≡ false
empty_array_flat fixed bounds =
    let depth = fold-Arr ℕ ℕ value_depth array_depth (empty_array fixed bounds)
    ∙ ap (λ n. 1 + n) (none_deep (item_count bounds)) in
    rw depth (grind (arith, nat_tests))

-- a cell with an array that weighs too much is refused
pub no_room : (fixed : Bool) (bounds : List ℤ) (store : Store)
    → nat_lt most_weight (weight_of_page store + (32 + 32 * min (item_count bounds) (2 ^ 64 - 1))) ≡ true
    → new_cell_of (Arr (empty_array fixed bounds)) store ≡ Err (Limit Data)
no_room fixed bounds store heavy =
    let array = Arr (empty_array fixed bounds) in
    let after = with_new_cell array store in
    let whole = weight_more store.cells store.cells_made array in
    let weight = empty_array_weight fixed bounds in
    let above : 16777216 < weight_of_page after = grind (arith, nat_tests) in
    answer_flat {T = CellNo} 0 array after (record { 0 = store.cells_made }) (empty_array_flat fixed bounds)
    ∙ answer_heavy {T = CellNo} after (record { 0 = store.cells_made }) (too_heavy after above)
