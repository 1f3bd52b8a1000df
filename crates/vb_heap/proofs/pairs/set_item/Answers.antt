use Rattle.std.proofs.Common.{arith}
use Rattle.std.specs.Map.{values_of}
use Rattle.vb_heap.proofs.Indexes.{weight_other, pair_within}
use Rattle.vb_heap.proofs.pairs.set_item.Goals as goal

pub returns-in-Some-clause-weight : goal.returns-in-Some-clause-weight
returns-in-Some-clause-weight c =
    let other = weight_other c.args.pairs.now.entries c.args.at c.in-Some.pair.now c.args.item
    c.in-Some.ensures.value in
    let within = pair_within (values_of c.args.pairs.now.entries) c.args.at c.in-Some.pair.now
    c.in-Some.ensures.value in
    let light = c.requires.light in
    let old = c.weight-old.ensures in
    omega arith
