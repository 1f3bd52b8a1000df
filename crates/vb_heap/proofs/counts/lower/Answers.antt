use Rattle.std.proofs.Common.{◌∙◌, arith, refl, sym}
use Rattle.vb_heap.specs.Waiting.{lowered}
use Rattle.vb_heap.proofs.Falling.{fallen_apart, fallen_stands, it_stands, keeps_place, lowered_counts}
use Rattle.vb_heap.proofs.Falling.{lowered_stands, one_more, stays_found}
use Rattle.vb_heap.proofs.Waiting.{apart_still, parts_stay, stands_in, stands_still}
use Rattle.vb_heap.proofs.counts.lower.Goals as goal

pub put_loose-requires : goal.put_loose-requires
put_loose-requires c =
    omega (
      arith,
      c.counts.invariant.room,
      fallen_apart c.args.number c.counts.inside.pool.entries _ refl
          (sym c.lower_one.ensures.falls ∙ c.if-lower_one.true),
    )

pub invariant_of-counts : goal.invariant_of-counts
invariant_of-counts c =
    let was = c.counts.invariant in
    let put = c.put_loose.ensures in
    record {
      stand =
          record {
            ordered = put.ordered was.stand.ordered;
            each =
                rw c.lower_one.ensures.counts
                (stands_still _ c.args.number lowered c.counts.inside.pool.entries _ refl
                (λ count is one. fallen_stands _ _ count (it_stands _ _ _ put.items) one)
                (stands_in _ _ (one_more c.args.number _ _ put.items) c.counts.inside.pool.entries was.stand.each));
          };
      room =
          rw c.lower_one.ensures.counts
          (omega (
            arith,
            was.room,
            put.len,
            put.capacity,
            fallen_apart c.args.number c.counts.inside.pool.entries _ refl
                (sym c.lower_one.ensures.falls ∙ c.if-lower_one.true),
          ));
    }

pub invariant_of-counts-else-lower_one : goal.invariant_of-counts-else-lower_one
invariant_of-counts-else-lower_one c =
    let was = c.counts.invariant in
    let stays = sym c.lower_one.ensures.falls ∙ c.if-lower_one.false in
    record {
      stand =
          record {
            ordered = was.stand.ordered;
            each =
                rw c.lower_one.ensures.counts
                (stands_still _ c.args.number lowered c.counts.inside.pool.entries _ refl
                (λ count is one. lowered_stands _ _ count (stays_found _ count is stays) one) was.stand.each);
          };
      room =
          rw (
            c.lower_one.ensures.counts,
            apart_still c.args.number lowered c.counts.inside.pool.entries _ refl
                (λ count is. keeps_place count (stays_found _ count is stays)),
          ) was.room;
    }

pub returns-then-lower_one-clause-counts : goal.returns-then-lower_one-clause-counts
returns-then-lower_one-clause-counts c =
    rw (sym c.counts.view_is, c.lower_one.ensures.counts)
    (lowered_counts c.args.number 0 _ c.counts.inside.pool.entries _ c.numbers_rise.ensures refl)

pub returns-then-lower_one-clause-ends : goal.returns-then-lower_one-clause-ends
returns-then-lower_one-clause-ends c =
    rw (sym c.counts.view_is, c.lower_one.ensures.counts)
    (parts_stay (λ count. count.ends) c.args.number lowered c.counts.inside.pool.entries _ refl (λ count is. refl))

pub returns-else-lower_one-clause-counts : goal.returns-else-lower_one-clause-counts
returns-else-lower_one-clause-counts c =
    rw (sym c.counts.view_is, c.lower_one.ensures.counts)
    (lowered_counts c.args.number 0 _ c.counts.inside.pool.entries _ c.numbers_rise.ensures refl)

pub returns-else-lower_one-clause-ends : goal.returns-else-lower_one-clause-ends
returns-else-lower_one-clause-ends c =
    rw (sym c.counts.view_is, c.lower_one.ensures.counts)
    (parts_stay (λ count. count.ends) c.args.number lowered c.counts.inside.pool.entries _ refl (λ count is. refl))
