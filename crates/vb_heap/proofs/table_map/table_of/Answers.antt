use Rattle.vb_heap.proofs.TableWeights.{entries_within}
use Rattle.vb_heap.proofs.table_map.table_of.Goals as goal

pub returns-in-Entries-clause-light : goal.returns-in-Entries-clause-light
returns-in-Entries-clause-light c =
    entries_within c.args.objects.now.entries c.args.number c.in-Some.object.now c.in-Entries.table
    c.in-Some.ensures c.in-Entries.is c.requires
