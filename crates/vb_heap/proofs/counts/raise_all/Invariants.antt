use Rattle.std.proofs.Common.{◌≡◌, ◌≤◌, take}
use Rattle.vb_heap.specs.Counted.{HaveRoom, counts_more, reaching}
use Rattle.vb_heap.specs.Tally.{IsTallied}
use Rattle.vb_heap.proofs.counts.raise_all.Given as goal

abbrev pub invariant-loop-number : goal.invariant-loop-number
invariant-loop-number l = record {
  counts :
      HaveRoom (take l.number-index l.numbers) l.fn.counts.entries
      → l.counts.entries ≡ counts_more (take l.number-index l.numbers) l.fn.counts.entries;
  ends : l.counts.ends ≡ l.fn.counts.ends;
  pooled : IsTallied l.fn.counts l.counts;
  top : l.fn.top ≤ l.top;
  below : reaching l.top (take l.number-index l.numbers) ≡ 0;
}
