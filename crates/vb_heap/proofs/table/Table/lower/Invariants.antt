use Rattle.std.proofs.Common.{◌≡◌, map}
use Rattle.std.specs.List.{flat_map}
use Rattle.std.specs.Map.Iter.{deref}
use Rattle.vb_heap.specs.Counted.{counts_less}
use Rattle.vb_heap.specs.Tally.{IsTallied}
use Rattle.vb_heap.specs.References.{references}
use Rattle.vb_heap.proofs.table.Table.lower.Given as goal

abbrev pub invariant-loop-pair : goal.invariant-loop-pair
invariant-loop-pair l = record {
  counts :
      l.counts.entries ≡ counts_less (flat_map (λ pair. references pair.item) (map deref l.yielded)) l.fn.counts.entries;
  ends : l.counts.ends ≡ l.fn.counts.ends;
  pooled : IsTallied l.fn.counts l.counts;
}
