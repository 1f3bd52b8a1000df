use Rattle.std.proofs.Common.{◌==◌, arith, sym}
use Rattle.vb_heap.proofs.Falling.{apart_new, it_stands, new_stands, none_apart, one_more}
use Rattle.vb_heap.proofs.Waiting.{at_most_one, stands_in, stands_more}
use Rattle.vb_heap.proofs.counts.add_count.Goals as goal

pub invariant_of-counts : goal.invariant_of-counts
invariant_of-counts c =
    let was = c.counts.invariant in
    let put = c.put_loose.ensures in
    let numbers = rw (sym c.counts.view_is) at c.requires.numbers in
    let free = rw (sym c.counts.view_is) at c.requires.free in
    record {
      stand =
          record {
            ordered = put.ordered was.stand.ordered;
            each =
                rw c.in-Ok.ensures.put
                (stands_more _ c.counts.inside.pool.next _ c.counts.inside.pool.entries
                (new_stands _ c.counts.inside.pool.next c.args.count numbers
                (λ waits. rw c.in-Ok.ensures.key at (it_stands _ _ _ put.items)))
                (stands_in _ _ (one_more _ _ _ put.items) c.counts.inside.pool.entries was.stand.each));
          };
      room =
          rw c.in-Ok.ensures.put
          (omega (
            arith,
            put.len,
            put.capacity,
            free,
            apart_new c.counts.inside.pool.next c.args.count c.counts.inside.pool.entries,
            none_apart c.args.count c.if-waits.true,
          ));
    }

pub invariant_of-counts-else-waits : goal.invariant_of-counts-else-waits
invariant_of-counts-else-waits c =
    let was = c.counts.invariant in
    let numbers = rw (sym c.counts.view_is) at c.requires.numbers in
    let free = rw (sym c.counts.view_is) at c.requires.free in
    record {
      stand =
          record {
            ordered = was.stand.ordered;
            each =
                rw c.in-Ok.ensures.put
                (stands_more _ c.counts.inside.pool.next _ c.counts.inside.pool.entries
                (new_stands _ c.counts.inside.pool.next c.args.count numbers (λ waits. absurd (cc)))
                was.stand.each);
          };
      room =
          rw c.in-Ok.ensures.put
          (omega (
            arith,
            free,
            apart_new c.counts.inside.pool.next c.args.count c.counts.inside.pool.entries,
            at_most_one (c.args.count == 0),
          ));
    }
