use Rattle.std.proofs.Common.{arith, sym}
use Rattle.vb_heap.proofs.Parts.{parts_without}
use Rattle.vb_heap.proofs.Waiting.{apart_without, stands_without}
use Rattle.vb_heap.proofs.counts.remove_count.Goals as goal

pub invariant_of-counts : goal.invariant_of-counts
invariant_of-counts c =
    let was = c.counts.invariant in
    record {
      stand =
          record {
            ordered = was.stand.ordered;
            each =
                rw (c.take.ensures.left, c.by_number.ensures)
                (stands_without _ c.args.number c.counts.inside.pool.entries was.stand.each);
          };
      room =
          rw (c.take.ensures.left, c.by_number.ensures)
          (omega (arith, was.room, apart_without c.args.number c.counts.inside.pool.entries));
    }

pub returns-clause-counts : goal.returns-clause-counts
returns-clause-counts c =
    rw (sym c.counts.view_is, c.take.ensures.left, c.by_number.ensures)
    (parts_without (λ count. count.count) c.args.number c.counts.inside.pool.entries)

pub returns-clause-ends : goal.returns-clause-ends
returns-clause-ends c =
    rw (sym c.counts.view_is, c.take.ensures.left, c.by_number.ensures)
    (parts_without (λ count. count.ends) c.args.number c.counts.inside.pool.entries)
