use Rattle.std.proofs.Common.{◌≡◌, ◌≤◌, ◌*◌, ◌-◌, ◌^◌, min, map}
use Rattle.std.specs.List.{flat_map}
use Rattle.std.specs.Map.Iter.{deref}
use Rattle.vb_heap.specs.Counts.{count_of}
use Rattle.vb_heap.specs.PairWeight.{entries_weight}
use Rattle.vb_heap.specs.References.{references}
use Rattle.vb_heap.proofs.table.Table.count.Given as goal

abbrev pub invariant-loop-pair : goal.invariant-loop-pair
invariant-loop-pair l = record {
  count :
      l.count ≡ min (count_of l.object (flat_map (λ pair. references pair.item) (map deref l.yielded))) (2 ^ 32 - 1);
  most : 32 * l.count ≤ entries_weight (map deref l.yielded);
}
