use Rattle.std.proofs.Common.{◌∙◌, sym}
use Rattle.vb_heap.proofs.Indexes.{finds}
use Rattle.vb_heap.proofs.table.Table.find.Goals as goal

pub returns-clause-place : goal.returns-clause-place
returns-clause-place c =
    rw (sym c.self.view_is)
    (c.get_index_of.ensures.index
    ∙ finds c.self.inside.mode c.args.key.now c.self.inside.pairs.entries c.self.invariant.said)
