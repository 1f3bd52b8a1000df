use Rattle.std.proofs.Common.{sym, ◌∙◌}
use Rattle.vb_heap.proofs.Counting.{less_none}
use Rattle.vb_heap.proofs.CellWeights.{was_there}
use Rattle.vb_heap.proofs.cell_map.remove_cell.Goals as goal

pub returns-in-Some-clause-weight : goal.returns-in-Some-clause-weight
returns-in-Some-clause-weight c =
    rw (c.take.ensures.left, c.by_number.ensures)
    (was_there c.args.cells.now.entries c.args.number c.weight.result _
    (rw c.by_number.ensures at (sym c.in-Some.is ∙ c.take.ensures.value)) c.requires.light c.weight.ensures)

pub returns-in-None-clause-counts : goal.returns-in-None-clause-counts
returns-in-None-clause-counts c =
    rw (rw c.by_number.ensures at (sym c.take.ensures.value ∙ c.in-None.is)) (sym (less_none c.args.counts.now.entries))
