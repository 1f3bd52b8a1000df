use Rattle.std.proofs.Common.{◌≡◌, ◌+◌, ◌≤◌}
use Rattle.std.specs.BinaryHeap.{heap_capacity, heap_items, heap_len}
use Rattle.vb_heap.specs.Pooled.{IsPooled}
use Rattle.vb_heap.specs.Waiting.{StandRight, apart, counts_of, ends_of}
use Rattle.vb_heap.proofs.counts.settle.Given as goal

abbrev pub invariant-loop-place : goal.invariant-loop-place
invariant-loop-place l = record {
  stand : StandRight (heap_items l.loose) l.pool.entries;
  room : heap_len l.loose + apart l.pool.entries ≤ heap_capacity l.loose;
  counts : counts_of l.pool.entries ≡ counts_of l.fn.pool.entries;
  ends : ends_of l.pool.entries ≡ ends_of l.fn.pool.entries;
  pooled : IsPooled l.fn.pool l.pool;
}

abbrev pub decreases-loop-place : goal.decreases-loop-place
decreases-loop-place l = heap_len l.loose
