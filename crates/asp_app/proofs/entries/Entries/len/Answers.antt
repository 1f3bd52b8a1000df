use Rattle.std.proofs.Common.{arith}
use Rattle.asp_app.proofs.Weights.{few_entries}
use Rattle.asp_app.proofs.entries.Entries.len.Goals as goal

pub returns-clause-few : goal.returns-clause-few
returns-clause-few c =
    let few = few_entries c.self.inside.map.entries in
    let count = c.len.ensures.len in
    let weighed = c.self.invariant.weighed in
    let light = c.self.invariant.light in
    omega arith
