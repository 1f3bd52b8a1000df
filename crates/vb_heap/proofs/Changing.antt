-- What changing a dictionary answers, and leaves.
use Rattle.std.proofs.Common.{◌≡◌, ℕ, ◌+◌, ◌≤◌, ◌<◌, ◌-◌, ◌^◌, min, arith, Ok, Err}
use Rattle.vb_value.specs.declared.limit.LimitKind.TheVariants.{Data}
use Rattle.vb_value.specs.declared.value.ObjNo.{ObjNo}
use Rattle.vb_heap.specs.declared.fault.HeapStop.TheVariants.{Limit}
use Rattle.vb_heap.specs.declared.heap.Heap.TheInside.{Inside}
use Rattle.vb_heap.specs.Dictionary.{Dictionary}
use Rattle.vb_heap.specs.Entries.{found_changed, with_dictionary}
use Rattle.vb_heap.specs.Inside.{IsKept, store_of as page}
use Rattle.vb_heap.specs.Limits.{if_fits}
use Rattle.vb_heap.specs.PageWeight.{weight_of_page, found_weight}
use Rattle.vb_heap.specs.Store.{numbered}
use Rattle.vb_heap.proofs.Fitting.{they_fit, too_heavy, answer_fits, answer_heavy}
use Rattle.vb_heap.proofs.TableWeights.{weight_changed}

module _ (heap : Inside) (kept : IsKept heap) (object : ObjNo) (change : Dictionary → Dictionary) (old new weight : ℕ)
    (changes : found_weight (found_changed change (numbered object.0 heap.objects.entries)) + old
    ≡ found_weight (numbered object.0 heap.objects.entries) + new) (within : old ≤ heap.weight)
    (summed : weight ≡ min (min new (2 ^ 64 - 1) + (heap.weight - old)) (2 ^ 64 - 1)) where
  -- too much
  pub refuses : 16777216 < weight
      → if_fits {T = Unit {0}} (with_dictionary change object (page heap)) tt ≡ Err (Limit Data)
  refuses heavy =
      let all = weight_changed change heap.objects.entries object.0 in
      let was = kept.weighed in
      answer_heavy (with_dictionary change object (page heap)) tt
      (too_heavy (with_dictionary change object (page heap)) (omega arith))

  -- as much as fits
  pub accepts : weight ≤ 16777216 → heap.objects_made < 2 ^ 32 → heap.cells_made < 2 ^ 64
      → if_fits {T = Unit {0}} (with_dictionary change object (page heap)) tt ≡ Ok tt
  accepts light objects cells =
      let all = weight_changed change heap.objects.entries object.0 in
      let was = kept.weighed in
      answer_fits (with_dictionary change object (page heap)) tt
      (they_fit (with_dictionary change object (page heap)) (record {
        light = omega arith;
        objects = omega arith;
        cells = omega arith;
        few = kept.few;
      }))

  -- what the data weigh afterwards
  pub weighs : weight ≤ 16777216 → weight ≡ weight_of_page (with_dictionary change object (page heap))
  weighs light =
      let all = weight_changed change heap.objects.entries object.0 in
      let was = kept.weighed in
      omega arith
