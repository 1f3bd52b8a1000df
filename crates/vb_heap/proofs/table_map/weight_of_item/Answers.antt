use Rattle.std.proofs.Common.{sym, arith}
use Rattle.vb_heap.proofs.TableWeights.{item_within}
use Rattle.vb_heap.proofs.table_map.weight_of_item.Goals as goal

pub returns-in-Ok-clause-within : goal.returns-in-Ok-clause-within
returns-in-Ok-clause-within c =
    let within = rw (sym c.in-Ok.ensures) at
    (item_within c.args.objects.now.entries c.args.number c.args.at) in
    let weighs = c.weight.ensures in
    omega arith
