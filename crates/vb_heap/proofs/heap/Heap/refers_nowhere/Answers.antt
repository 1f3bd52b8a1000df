use Rattle.std.proofs.Common.{sym}
use Rattle.vb_heap.specs.Inside.{store_of}
use Rattle.vb_heap.proofs.Nowhere.{is_none, nothing_read, nowhere}
use Rattle.vb_heap.proofs.heap.Heap.refers_nowhere.Goals as goal

pub returns-clause-nowhere : goal.returns-clause-nowhere
returns-clause-nowhere c zero =
    rw (sym c.self.view_is)
    (nowhere c.self.inside.counts.entries c.self.inside.top (store_of c.self.inside) c.self.invariant.counted
    (is_none c.self.inside.top zero))

pub returns-clause-read : goal.returns-clause-read
returns-clause-read c zero =
    rw (sym c.self.view_is)
    (nothing_read (store_of c.self.inside)
    (nowhere c.self.inside.counts.entries c.self.inside.top (store_of c.self.inside) c.self.invariant.counted
    (is_none c.self.inside.top zero)))
