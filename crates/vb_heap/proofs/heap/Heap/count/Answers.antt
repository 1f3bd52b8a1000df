use Rattle.std.proofs.Common.{sym, ◌∙◌}
use Rattle.vb_heap.specs.Inside.{store_of}
use Rattle.vb_heap.proofs.Told.{right_count}
use Rattle.vb_heap.proofs.heap.Heap.count.Goals as goal

pub returns-in-Some : goal.returns-in-Some
returns-in-Some c =
    rw (sym c.self.view_is)
    (right_count c.args.object.0 c.in-Some.count c.self.inside.counts.entries c.self.inside.top (store_of c.self.inside)
    c.self.invariant.counted (sym c.in-Some.ensures))
