use Rattle.vb_heap.proofs.TableWeights.{entries_within}
use Rattle.vb_heap.proofs.table_map.set_item_at.Goals as goal

pub set-requires-clause-light : goal.set-requires-clause-light
set-requires-clause-light c =
    entries_within c.args.objects.now.entries c.args.number c.in-Some.object.now c.in-Entries.table
    (rw c.by_number.ensures at c.in-Some.ensures.value) c.in-Entries.is c.requires.light
