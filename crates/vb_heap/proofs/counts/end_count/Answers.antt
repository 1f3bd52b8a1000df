use Rattle.std.proofs.Common.{refl, sym, true}
use Rattle.vb_heap.specs.Waiting.{ended}
use Rattle.vb_heap.proofs.Falling.{ended_stands}
use Rattle.vb_heap.proofs.Waiting.{apart_still, part_placed, parts_stay, stands_still}
use Rattle.vb_heap.proofs.counts.end_count.Goals as goal

pub invariant_of-counts : goal.invariant_of-counts
invariant_of-counts c =
    let was = c.counts.invariant in
    record {
      stand =
          record {
            ordered = was.stand.ordered;
            each =
                rw c.end_one.ensures.counts
                (stands_still _ c.args.number ended c.counts.inside.pool.entries _ refl
                (λ count is one. ended_stands _ _ count one) was.stand.each);
          };
      room =
          rw (
            c.end_one.ensures.counts,
            apart_still c.args.number ended c.counts.inside.pool.entries _ refl (λ count is. refl),
          ) was.room;
    }

pub returns-clause-counts : goal.returns-clause-counts
returns-clause-counts c =
    rw (sym c.counts.view_is, c.end_one.ensures.counts)
    (parts_stay (λ count. count.count) c.args.number ended c.counts.inside.pool.entries _ refl (λ count is. refl))

pub returns-clause-ends : goal.returns-clause-ends
returns-clause-ends c =
    rw (sym c.counts.view_is, c.end_one.ensures.counts)
    (part_placed (λ count. count.ends) c.args.number true ended c.counts.inside.pool.entries _ refl (λ count. refl))
