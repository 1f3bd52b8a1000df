use Rattle.std.proofs.Common.{arith}
use Rattle.vb_heap.proofs.Indexes.{weight_less}
use Rattle.vb_heap.proofs.pairs.remove_pair.Goals as goal

pub returns-in-Some-clause-weight : goal.returns-in-Some-clause-weight
returns-in-Some-clause-weight c =
    let less = weight_less c.args.pairs.now.entries c.args.at c.in-Some.field-0-0 c.in-Some.pair
    c.in-Some.ensures.entry in
    let light = c.requires in
    rw c.in-Some.ensures.entries (omega arith)
