use Rattle.std.proofs.Common.{sym, refl, arith}
use Rattle.vb_heap.proofs.Indexes.{said_less, pairs_less}
use Rattle.vb_heap.proofs.table.Table.drop_at.Goals as goal

pub invariant_of-self : goal.invariant_of-self
invariant_of-self c =
    let gone = c.remove_pair-weight.ensures.weight in
    let was = c.self.invariant.weighed in
    record {
      said =
          rw c.remove_pair-weight.ensures.entries
          (said_less c.self.inside.mode c.self.inside.pairs.entries c.args.at c.self.invariant.said);
      weighed = omega arith;
    }

pub returns-clause-data : goal.returns-clause-data
returns-clause-data c =
    rw (sym c.self.view_is)
    (rw (c.remove_pair-weight.ensures.entries, pairs_less c.self.inside.pairs.entries c.args.at) refl)
