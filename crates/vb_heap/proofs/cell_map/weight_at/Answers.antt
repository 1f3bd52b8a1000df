use Rattle.vb_heap.proofs.CellWeights.{told_there}
use Rattle.vb_heap.proofs.cell_map.weight_at.Goals as goal

pub returns-in_ok-value_in-in-Some-clause-answer : goal.returns-in_ok-value_in-in-Some-clause-answer
returns-in_ok-value_in-in-Some-clause-answer c =
    (told_there c.args.cells.now.entries c.args.number c.args.steps.now c.in-Some.value.now
    c.in_ok-value_in-in-Some.field-0.now c.weight.result c.in-Some.ensures c.in_ok-value_in-in-Some.ensures
    c.weight.ensures c.requires).0

pub returns-in_ok-value_in-in-Some-clause-within : goal.returns-in_ok-value_in-in-Some-clause-within
returns-in_ok-value_in-in-Some-clause-within c =
    (told_there c.args.cells.now.entries c.args.number c.args.steps.now c.in-Some.value.now
    c.in_ok-value_in-in-Some.field-0.now c.weight.result c.in-Some.ensures c.in_ok-value_in-in-Some.ensures
    c.weight.ensures c.requires).1
