use Rattle.std.proofs.Common.{arith}
use Rattle.vb_heap.proofs.TableWeights.{entries_within, may_be_added}
use Rattle.vb_heap.proofs.table_map.add_pair.Goals as goal

pub add-requires-clause-fits : goal.add-requires-clause-fits
add-requires-clause-fits c =
    omega (
      arith,
      c.requires.fits,
      entries_within c.args.objects.now.entries c.args.number c.in-Some.object.now c.in-Entries.table
          (rw c.by_number.ensures at c.in-Some.ensures.value) c.in-Entries.is c.requires.light,
    )

pub returns-in-Entries-clause-entries : goal.returns-in-Entries-clause-entries
returns-in-Entries-clause-entries c =
    rw c.by_number.ensures
    (may_be_added c.add.result c.args.objects.now.entries c.args.number c.in-Some.object.now c.in-Entries.table
    c.add.new.self c.args.pair (rw c.by_number.ensures at c.in-Some.ensures.value) c.in-Entries.is c.add.ensures)
