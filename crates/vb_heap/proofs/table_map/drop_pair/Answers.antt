use Rattle.vb_heap.proofs.TableWeights.{entries_within}
use Rattle.vb_heap.proofs.table_map.drop_pair.Goals as goal

pub drop_at-requires : goal.drop_at-requires
drop_at-requires c =
    entries_within c.args.objects.now.entries c.args.number c.in-Some.object.now c.in-Entries.table
    (rw c.by_number.ensures at c.in-Some.ensures.value) c.in-Entries.is c.requires
