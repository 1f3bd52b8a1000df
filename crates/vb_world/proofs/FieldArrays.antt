-- A cell takes no array that alone weighs more than the data of a page may.
use Rattle.std.proofs.Common.{◌≡◌, ◌+◌, ◌*◌, ◌-◌, ◌^◌, ◌<◌, min, nat_lt, Bool, true, List, [], ap, sym, ◌∙◌, arith}
use Rattle.std.proofs.Common.{ℤ, Option, Some, None, Ok, Err}
use Rattle.std.proofs.lemmas.Bool.Decides.{nat_tests}
use Rattle.vb_value.specs.declared.limit.LimitKind.TheVariants.{Data}
use Rattle.vb_value.specs.declared.value.Value.{Value}
use Rattle.vb_value.specs.declared.value.Value.TheViews.{Arr}
use Rattle.vb_value.specs.Errors.{and_then}
use Rattle.vb_value.specs.Sound.{item_count}
use Rattle.vb_value.specs.Weight.{weight_of}
use Rattle.vb_heap.specs.declared.fault.HeapStop.TheVariants.{Limit}
use Rattle.vb_heap.specs.declared.place.CellNo.{CellNo}
use Rattle.vb_heap.specs.Cells.{read_of, store_of, with_stored, value_there}
use Rattle.vb_heap.specs.Limits.{most_weight}
use Rattle.vb_heap.specs.PageWeight.{weight_of_page}
use Rattle.vb_heap.specs.Places.{value_in}
use Rattle.vb_heap.specs.Saturated.{weight_told}
use Rattle.vb_heap.specs.Store.{Store, numbered}
use Rattle.vb_heap.proofs.CellWeights.{weight_put, cell_within}
use Rattle.vb_heap.proofs.Fitting.{too_heavy, answer_heavy, answer_flat, goes_on}
use Rattle.vb_meaning.specs.declared.stop.Stop.TheVariants as stop
use Rattle.vb_meaning.specs.World.{World}
use Rattle.vb_meaning.specs.Places.{cell_place}
use Rattle.vb_meaning.specs.State.{on_store, store_answer, with_store}
use Rattle.vb_meaning.specs.Step.{Ends}
use Rattle.vb_meaning.specs.Values.{empty_array}
use Rattle.vb_world.proofs.EmptyArrays.{empty_array_weight, empty_array_flat}

there : (old : Value) (found : Option Value) → Ok old ≡ and_then (value_there found) (value_in []) → Some old ≡ found
there old (Some value) reads = cc
there old None reads = absurd (cc)

store_refused : (cell : CellNo) (fixed : Bool) (bounds : List ℤ) (store : Store) (old : Value)
    → Ok old ≡ read_of (cell_place cell) store
    → nat_lt most_weight (32 + 32 * min (item_count bounds) (2 ^ 64 - 1)) ≡ true
    → store_of (cell_place cell) (Arr (empty_array fixed bounds)) store ≡ Err (Limit Data)
store_refused cell fixed bounds store old reads heavy =
    let array = Arr (empty_array fixed bounds) in
    let after = with_stored (cell_place cell) array store in
    let told : Ok (weight_of old) ≡ weight_told (read_of (cell_place cell) store) = ap weight_told reads in
    let put = weight_put store.cells cell.0 [] array (weight_of old) (sym told) in
    let within = cell_within store.cells cell.0 old (there old (numbered cell.0 store.cells) reads) in
    let weight = empty_array_weight fixed bounds in
    let above : 16777216 < weight_of_page after = grind (arith, nat_tests) in
    goes_on (read_of (cell_place cell) store) (weight_of old) _ told
    ∙ (answer_flat 0 array after tt (empty_array_flat fixed bounds) ∙ answer_heavy after tt (too_heavy after above))

-- an array that alone is too much is refused where a cell is there
pub array_refused : (cell : CellNo) (fixed : Bool) (bounds : List ℤ) (world : World) (old : Value)
    → Ok old ≡ read_of (cell_place cell) world.store
    → nat_lt most_weight (32 + 32 * min (item_count bounds) (2 ^ 64 - 1)) ≡ true
    → on_store (store_of (cell_place cell) (Arr (empty_array fixed bounds)))
    (with_stored (cell_place cell) (Arr (empty_array fixed bounds))) world ≡ Ends (stop.Limit Data None) world
array_refused cell fixed bounds world old reads heavy =
    let array = Arr (empty_array fixed bounds) in
    ap (λ answer. store_answer answer (with_store (with_stored (cell_place cell) array) world) world)
    (store_refused cell fixed bounds world.store old reads heavy)
