use Rattle.std.proofs.Common.{◌≡◌, ◌≤◌, take}
use Rattle.std.specs.List.{flat_map}
use Rattle.vb_heap.specs.Counted.{HaveRoom, counts_more, reaching}
use Rattle.vb_heap.specs.Tally.{IsTallied}
use Rattle.vb_heap.specs.References.{references}
use Rattle.vb_heap.proofs.counts.+raise_in.Given as goal

abbrev pub invariant-loop-item : goal.invariant-loop-item
invariant-loop-item l = record {
  counts :
      HaveRoom (flat_map references (take l.item-index l.item-items)) l.fn.counts.entries
      → l.counts.entries ≡ counts_more (flat_map references (take l.item-index l.item-items)) l.fn.counts.entries;
  ends : l.counts.ends ≡ l.fn.counts.ends;
  pooled : IsTallied l.fn.counts l.counts;
  top : l.fn.top ≤ l.top;
  below : reaching l.top (flat_map references (take l.item-index l.item-items)) ≡ 0;
}
