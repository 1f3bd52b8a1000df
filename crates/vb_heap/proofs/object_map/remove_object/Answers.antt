use Rattle.std.proofs.Common.{sym, ◌∙◌, arith}
use Rattle.vb_heap.proofs.ObjectWeights.{object_there, nothing_there}
use Rattle.vb_heap.proofs.object_map.remove_object.Goals as goal

pub returns-in-Some-clause-weight : goal.returns-in-Some-clause-weight
returns-in-Some-clause-weight c =
    let there = object_there c.args.objects.now.entries c.args.number c.weight_of_object.result c.in-Some.object
    (rw c.by_number.ensures at (sym c.in-Some.is ∙ c.take.ensures.value)) (omega (arith, c.requires))
    c.weight_of_object.ensures in
    let fields = c.remove_fields.ensures.weight in
    rw (c.take.ensures.left, c.by_number.ensures) (omega (arith, there, fields))

pub returns-in-None-clause-weight : goal.returns-in-None-clause-weight
returns-in-None-clause-weight c =
    let same = nothing_there c.args.objects.now.entries c.args.number
    (rw c.by_number.ensures at (sym c.in-None.is ∙ c.take.ensures.value)) in
    rw (c.take.ensures.left, c.by_number.ensures) (omega (arith, same))
