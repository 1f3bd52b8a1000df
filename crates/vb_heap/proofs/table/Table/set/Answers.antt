use Rattle.std.proofs.Common.{sym, refl, arith}
use Rattle.vb_heap.proofs.Indexes.{said_set, pairs_set}
use Rattle.vb_heap.proofs.table.Table.set.Goals as goal

pub invariant_of-self : goal.invariant_of-self
invariant_of-self c =
    let set = c.set_item-old.ensures.weight in
    let was = c.self.invariant.weighed in
    let new = c.weight-new.ensures in
    let fits = c.requires.fits in
    record {
      said =
          rw c.set_item-old.ensures.entries
          (said_set c.self.inside.mode c.self.inside.pairs.entries c.args.at c.args.item _ refl
          c.self.invariant.said);
      weighed = omega arith;
    }

pub returns : goal.returns
returns c =
    rw (sym c.self.view_is)
    (rw (c.set_item-old.ensures.entries, pairs_set c.self.inside.pairs.entries c.args.at c.args.item _) refl)
