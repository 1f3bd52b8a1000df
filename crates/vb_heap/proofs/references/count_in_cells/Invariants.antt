use Rattle.std.proofs.Common.{◌≡◌, ◌≤◌, ◌*◌, ◌-◌, ◌^◌, min, filter_map, sum_by, take}
use Rattle.slot_pool.specs.Pool.{led_to}
use Rattle.std.specs.List.{flat_map}
use Rattle.std.specs.Map.{values_of}
use Rattle.vb_value.specs.Weight.{weight_of}
use Rattle.vb_heap.specs.Counts.{count_of}
use Rattle.vb_heap.specs.References.{references}
use Rattle.vb_heap.proofs.references.count_in_cells.Given as goal

abbrev pub invariant-loop-key : goal.invariant-loop-key
invariant-loop-key l = record {
  count :
      l.count ≡ min (count_of l.object (flat_map references (values_of
      (filter_map (led_to l.cells) (take l.key-index l.key-items))))) (2 ^ 32 - 1);
  most : 32 * l.count ≤ sum_by weight_of (values_of (filter_map (led_to l.cells) (take l.key-index l.key-items)));
}
