use Rattle.std.proofs.Common.{sym}
use Rattle.vb_heap.proofs.Counting.{less_none}
use Rattle.vb_heap.proofs.table_map.lower_item.Goals as goal

pub returns-in_default-clause-counts : goal.returns-in_default-clause-counts
returns-in_default-clause-counts c = rw (sym c.in_default.ensures) (sym (less_none c.args.counts.now.entries))
