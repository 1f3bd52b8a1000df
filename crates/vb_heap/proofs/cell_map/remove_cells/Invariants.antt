use Rattle.std.proofs.Common.{◌≡◌, ◌+◌, sum_by, take}
use Rattle.std.specs.Map.{values_of}
use Rattle.vb_value.specs.Weight.{weight_of}
use Rattle.vb_heap.specs.Counted.{counts_less, field_references}
use Rattle.vb_heap.specs.Pooled.{IsPooled}
use Rattle.vb_heap.specs.Tally.{IsTallied}
use Rattle.vb_heap.specs.Releases.{without_all}
use Rattle.vb_heap.proofs.cell_map.remove_cells.Given as goal

abbrev pub invariant-loop-cell : goal.invariant-loop-cell
invariant-loop-cell l = record {
  counts :
      l.counts.entries ≡ counts_less (field_references (take l.cell-index l.gone) l.fn.cells.entries) l.fn.counts.entries;
  ends : l.counts.ends ≡ l.fn.counts.ends;
  counts_pooled : IsTallied l.fn.counts l.counts;
  cells : l.cells.entries ≡ without_all (take l.cell-index l.gone) l.fn.cells.entries;
  weight :
      l.weight + sum_by weight_of (values_of l.cells.entries) ≡ sum_by weight_of (values_of l.fn.cells.entries);
  pooled : IsPooled l.fn.cells l.cells;
}
