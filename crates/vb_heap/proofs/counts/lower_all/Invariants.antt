use Rattle.std.proofs.Common.{◌≡◌, take}
use Rattle.vb_heap.specs.Counted.{counts_less}
use Rattle.vb_heap.specs.Tally.{IsTallied}
use Rattle.vb_heap.proofs.counts.lower_all.Given as goal

abbrev pub invariant-loop-number : goal.invariant-loop-number
invariant-loop-number l = record {
  counts : l.counts.entries ≡ counts_less (take l.number-index l.numbers) l.fn.counts.entries;
  ends : l.counts.ends ≡ l.fn.counts.ends;
  pooled : IsTallied l.fn.counts l.counts;
}
