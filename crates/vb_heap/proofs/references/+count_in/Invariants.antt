use Rattle.std.proofs.Common.{◌≡◌, ◌≤◌, ◌*◌, ◌-◌, ◌^◌, min, take, sum_by}
use Rattle.std.specs.List.{flat_map}
use Rattle.vb_value.specs.Weight.{weight_of}
use Rattle.vb_heap.specs.Counts.{count_of}
use Rattle.vb_heap.specs.References.{references}
use Rattle.vb_heap.proofs.references.+count_in.Given as goal

abbrev pub invariant-loop-item : goal.invariant-loop-item
invariant-loop-item l = record {
  count : l.count ≡ min (count_of l.object (flat_map references (take l.item-index l.item-items))) (2 ^ 32 - 1);
  most : 32 * l.count ≤ sum_by weight_of (take l.item-index l.item-items);
}
