use Rattle.std.proofs.Common.{◌≡◌, ◌≤◌, ◌*◌, ◌-◌, ◌^◌, min, filter_map, sum_by, take}
use Rattle.slot_pool.specs.Pool.{led_to}
use Rattle.std.specs.List.{flat_map}
use Rattle.std.specs.Map.{values_of}
use Rattle.vb_heap.specs.Counts.{count_of}
use Rattle.vb_heap.specs.PageWeight.{object_weight}
use Rattle.vb_heap.specs.References.{object_references}
use Rattle.vb_heap.proofs.references.count_in_objects.Given as goal

abbrev pub invariant-loop-key : goal.invariant-loop-key
invariant-loop-key l = record {
  count :
      l.count ≡ min (count_of l.number (flat_map object_references (values_of
      (filter_map (led_to l.objects) (take l.key-index l.key-items))))) (2 ^ 32 - 1);
  most : 32 * l.count ≤ sum_by object_weight (values_of (filter_map (led_to l.objects) (take l.key-index l.key-items)));
}
