-- What storing at a place answers, and leaves.
use Rattle.std.proofs.Common.{◌≡◌, ℕ, ◌+◌, ◌≤◌, ◌<◌, ◌-◌, ◌^◌, min, length, false, sym, ◌∙◌, arith, Ok, Err}
use Rattle.vb_value.specs.declared.limit.LimitKind.TheVariants.{Data}
use Rattle.vb_value.specs.declared.value.Value.{Value}
use Rattle.vb_value.specs.Weight.{weight_of}
use Rattle.vb_heap.specs.declared.fault.HeapStop.TheVariants.{Limit}
use Rattle.vb_heap.specs.declared.heap.Heap.TheInside.{Inside}
use Rattle.vb_heap.specs.declared.place.Place.{Place}
use Rattle.vb_heap.specs.Cells.{read_of, store_of, with_stored}
use Rattle.vb_heap.specs.Inside.{IsKept, store_of as page}
use Rattle.vb_heap.specs.Limits.{is_too_deep}
use Rattle.vb_heap.specs.PageWeight.{weight_of_page}
use Rattle.vb_heap.specs.Saturated.{weight_told}
use Rattle.vb_heap.specs.Store.{Store}
use Rattle.vb_heap.proofs.CellWeights.{weight_put}
use Rattle.vb_heap.proofs.Fitting.{they_fit, too_heavy, answer_fits, answer_heavy, answer_flat, goes_on}

-- what the data weigh afterwards
weight_stored : (place : Place) (new : Value) (store : Store) (old : ℕ) → Ok old ≡ weight_told (read_of place store)
    → weight_of_page (with_stored place new store) + old ≡ weight_of_page store + weight_of new
weight_stored place new store old told =
    let cells = weight_put store.cells place.cell.0 place.steps new old (sym told) in
    omega arith

module _ (heap : Inside) (kept : IsKept heap) (place : Place) (new : Value) (old weight : ℕ)
    (told : Ok old ≡ weight_told (read_of place (page heap))) (within : old ≤ heap.weight)
    (summed : weight ≡ min (min (weight_of new) (2 ^ 64 - 1) + (heap.weight - old)) (2 ^ 64 - 1))
    (flat : is_too_deep (length place.steps) new ≡ false) where
  -- too much
  pub refuses : 16777216 < weight → store_of place new (page heap) ≡ Err (Limit Data)
  refuses heavy =
      let all = weight_stored place new (page heap) old told in
      let was = kept.weighed in
      goes_on (read_of place (page heap)) old _ told
      ∙ (answer_flat (length place.steps) new (with_stored place new (page heap)) tt flat
      ∙ answer_heavy (with_stored place new (page heap)) tt
      (too_heavy (with_stored place new (page heap)) (omega arith)))

  -- as much as fits
  pub accepts : weight ≤ 16777216 → heap.objects_made < 2 ^ 32 → heap.cells_made < 2 ^ 64
      → store_of place new (page heap) ≡ Ok tt
  accepts light objects cells =
      let all = weight_stored place new (page heap) old told in
      let was = kept.weighed in
      goes_on (read_of place (page heap)) old _ told
      ∙ (answer_flat (length place.steps) new (with_stored place new (page heap)) tt flat
      ∙ answer_fits (with_stored place new (page heap)) tt
      (they_fit (with_stored place new (page heap))
      (record { light = omega arith; objects = omega arith; cells = omega arith; few = kept.few })))

  -- what is told of the weight stays right
  pub weighs : weight ≤ 16777216 → weight ≡ weight_of_page (with_stored place new (page heap))
  weighs light =
      let all = weight_stored place new (page heap) old told in
      let was = kept.weighed in
      omega arith
