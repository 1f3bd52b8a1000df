use Rattle.std.proofs.Common.{sym, refl, arith}
use Rattle.vb_heap.proofs.Indexes.{comes_last, said_more, pairs_more, weight_more}
use Rattle.vb_heap.proofs.table.Table.add.Goals as goal

pub invariant_of-self-2 : goal.invariant_of-self-2
invariant_of-self-2 c =
    let free = rw (sym c.self.view_is) at c.requires.free in
    let says = rw (sym c.self.view_is) at c.requires.says in
    let last = comes_last c.self.inside.pairs c.self.inside.mode c.args.key c.args.pair c.self.invariant.said free in
    let heavier = weight_more c.self.inside.pairs.entries c.args.key c.args.pair in
    let was = c.self.invariant.weighed in
    record {
      said =
          rw (c.in_ok-insert.ensures.entries, last)
          (said_more c.self.inside.mode c.self.inside.pairs.entries c.args.key c.args.pair c.self.invariant.said says);
      weighed = rw (c.in_ok-insert.ensures.entries, last) (omega (arith, c.requires.weighs));
    }

pub returns : goal.returns
returns c =
    let free = rw (sym c.self.view_is) at c.requires.free in
    let last = comes_last c.self.inside.pairs c.self.inside.mode c.args.key c.args.pair c.self.invariant.said free in
    rw (sym c.self.view_is)
    (rw (c.in_ok-insert.ensures.entries, last, pairs_more c.self.inside.pairs.entries c.args.key c.args.pair) refl)
