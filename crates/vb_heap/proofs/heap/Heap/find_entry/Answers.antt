use Rattle.std.proofs.Common.{arith}
use Rattle.vb_heap.proofs.Indexes.{least_pairs}
use Rattle.vb_heap.proofs.heap.Heap.find_entry.Goals as goal

pub overflow_cast-result : goal.overflow_cast-result
overflow_cast-result c =
    let least = least_pairs c.in-Ok.table.now.pairs in
    let light = c.in-Ok.ensures.light in
    omega (arith, c.in-Some-find.ensures.within)
