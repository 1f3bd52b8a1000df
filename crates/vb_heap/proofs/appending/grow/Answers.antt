use Rattle.vb_heap.proofs.Longer.{grown}
use Rattle.vb_heap.proofs.appending.grow.Goals as goal

pub returns-in-Some-clause-cells : goal.returns-in-Some-clause-cells
returns-in-Some-clause-cells c =
    rw c.by_number.ensures
    (grown c.lengthen.result c.args.cells.now.entries c.args.number c.in-Some.value.now _ c.args.more.now
    (rw c.by_number.ensures at c.in-Some.ensures.value) c.lengthen.ensures)
