use Rattle.std.proofs.Common.{sym}
use Rattle.vb_heap.proofs.Differing.{keys_differ}
use Rattle.vb_heap.proofs.table.Table.keys_differ.Goals as goal

pub returns : goal.returns
returns c =
    rw (sym c.self.view_is)
    (keys_differ c.self.inside.mode c.self.inside.pairs.entries c.self.invariant.said c.len.ensures.unique)
