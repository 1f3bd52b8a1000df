use Rattle.std.proofs.Common.{sym}
use Rattle.vb_heap.specs.Inside.{store_of}
use Rattle.vb_heap.proofs.Told.{none_to_come}
use Rattle.vb_heap.proofs.heap.Heap.first_count.Goals as goal

pub returns-then-self : goal.returns-then-self
returns-then-self c =
    rw (sym c.self.view_is)
    (sym (none_to_come c.self.inside.counts.entries c.self.inside.top (store_of c.self.inside) c.self.invariant.counted
    c.if-self.true))
