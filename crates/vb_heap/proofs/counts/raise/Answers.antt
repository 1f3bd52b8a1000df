use Rattle.std.proofs.Common.{refl, sym}
use Rattle.vb_heap.specs.Waiting.{raised}
use Rattle.vb_heap.proofs.Falling.{raised_counts, raised_stands}
use Rattle.vb_heap.proofs.Waiting.{apart_still, parts_stay, stands_still}
use Rattle.vb_heap.proofs.counts.raise.Goals as goal

pub invariant_of-counts : goal.invariant_of-counts
invariant_of-counts c =
    let was = c.counts.invariant in
    record {
      stand =
          record {
            ordered = was.stand.ordered;
            each =
                rw c.raise_one.ensures.counts
                (stands_still _ c.args.number raised c.counts.inside.pool.entries _ refl
                (λ count is one. raised_stands _ _ count one) was.stand.each);
          };
      room =
          rw (
            c.raise_one.ensures.counts,
            apart_still c.args.number raised c.counts.inside.pool.entries _ refl (λ count is. refl),
          ) was.room;
    }

pub returns-clause-counts : goal.returns-clause-counts
returns-clause-counts c =
    rw (sym c.counts.view_is, c.raise_one.ensures.counts)
    (raised_counts c.args.number 0 _ c.counts.inside.pool.entries _ c.numbers_rise.ensures refl)

pub returns-clause-ends : goal.returns-clause-ends
returns-clause-ends c =
    rw (sym c.counts.view_is, c.raise_one.ensures.counts)
    (parts_stay (λ count. count.ends) c.args.number raised c.counts.inside.pool.entries _ refl (λ count is. refl))
