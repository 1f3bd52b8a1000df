use Rattle.std.proofs.Common.{◌≡◌, ◌-◌, ◌∷◌, sym, refl, ◌∙◌, subst, arith, heap_items}
use Rattle.std.proofs.lemmas.List.Sorted.{Contains-permutation, le_from_greatest}
use Rattle.vb_heap.specs.Store.{numbered}
use Rattle.vb_heap.specs.Waiting.{EachStands, settled, turned}
use Rattle.vb_heap.proofs.Settling.{free_found, held_found, none_waits, oldest_here, settled_ends, settled_live}
use Rattle.vb_heap.proofs.Settling.{settled_stands, stands_taken}
use Rattle.vb_heap.proofs.Waiting.{apart_least, parts_stay, stands_in}
use Rattle.vb_heap.proofs.counts.settle.Goals as goal

pub returns-then-settle_one-clause-stand : goal.returns-then-settle_one-clause-stand
returns-then-settle_one-clause-stand c =
    let was = c.loop-place.invariant.stand in
    let turns : c.in-Some.place ≡ turned (4294967295 - c.in-Some.place) = omega arith in
    let all = stands_in _ _ (λ x. Contains-permutation _ _ x c.in-Some.ensures.permutation) c.loop-place.pool.entries
    was.each in
    record {
      ordered = (c.in-Some.ensures.heap_order was.ordered).0;
      each = rw c.settle_one.ensures.counts
          (stands_taken _ (omega arith) _ settled (λ count one. settled_stands _ _ count (omega arith)) 0 _
          c.loop-place.pool.entries c.numbers_rise.ensures
          (subst (λ place. EachStands (place ∷ heap_items c.pop.new.self) c.loop-place.pool.entries) turns all));
    }

pub returns-then-settle_one-clause-room : goal.returns-then-settle_one-clause-room
returns-then-settle_one-clause-room c =
    rw c.settle_one.ensures.counts
    (omega (
      arith,
      apart_least (4294967295 - c.in-Some.place) settled c.loop-place.pool.entries _ refl,
      c.loop-place.invariant.room,
      c.in-Some.ensures.len,
      c.in-Some.ensures.capacity,
    ))

pub returns-then-settle_one-clause-oldest : goal.returns-then-settle_one-clause-oldest
returns-then-settle_one-clause-oldest c =
    let was = c.loop-place.invariant in
    let turns : c.in-Some.place ≡ turned (4294967295 - c.in-Some.place) = omega arith in
    let top = le_from_greatest c.in-Some.place _ (c.in-Some.ensures.heap_order was.stand.ordered).1 in
    let found = free_found (numbered (4294967295 - c.in-Some.place) c.loop-place.pool.entries)
    (sym c.settle_one.ensures.free ∙ c.if-settle_one.true) in
    rw (sym was.counts, sym was.ends)
    (sym (oldest_here (4294967295 - c.in-Some.place) (omega arith) _ (rw turns at top) found.0 0 _
    c.loop-place.pool.entries c.numbers_rise.ensures was.stand.each found.1 found.2))

pub returns-then-settle_one-clause-counts : goal.returns-then-settle_one-clause-counts
returns-then-settle_one-clause-counts c =
    rw c.settle_one.ensures.counts
    (parts_stay (λ count. count.count) (4294967295 - c.in-Some.place) settled c.loop-place.pool.entries _ refl
    (λ count is. refl)
    ∙ c.loop-place.invariant.counts)

pub returns-then-settle_one-clause-ends : goal.returns-then-settle_one-clause-ends
returns-then-settle_one-clause-ends c =
    rw (c.settle_one.ensures.counts, sym c.loop-place.invariant.ends)
    (settled_ends (4294967295 - c.in-Some.place) c.loop-place.pool.entries _ refl
    (sym c.settle_one.ensures.free ∙ c.if-settle_one.true))

pub loop-place-preserved : goal.loop-place-preserved
loop-place-preserved c =
    let was = c.loop-place.invariant in
    let turns : c.in-Some.place ≡ turned (4294967295 - c.in-Some.place) = omega arith in
    let all = stands_in _ _ (λ x. Contains-permutation _ _ x c.in-Some.ensures.permutation) c.loop-place.pool.entries
    was.stand.each in
    record {
      stand =
          record {
            ordered = (c.in-Some.ensures.heap_order was.stand.ordered).0;
            each =
                rw c.settle_one.ensures.counts
                (stands_taken _ (omega arith) _ settled (λ count one. settled_stands _ _ count (omega arith)) 0 _
                c.loop-place.pool.entries c.numbers_rise.ensures
                (subst (λ place. EachStands (place ∷ heap_items c.pop.new.self) c.loop-place.pool.entries) turns all));
          };
      room =
          rw c.settle_one.ensures.counts
          (omega (
            arith,
            apart_least (4294967295 - c.in-Some.place) settled c.loop-place.pool.entries _ refl,
            was.room,
            c.in-Some.ensures.len,
            c.in-Some.ensures.capacity,
          ));
      counts =
          rw c.settle_one.ensures.counts
          (parts_stay (λ count. count.count) (4294967295 - c.in-Some.place) settled c.loop-place.pool.entries _ refl
          (λ count is. refl)
          ∙ was.counts);
      ends =
          rw c.settle_one.ensures.counts
          (parts_stay (λ count. count.ends) (4294967295 - c.in-Some.place) settled c.loop-place.pool.entries
          (numbered (4294967295 - c.in-Some.place) c.loop-place.pool.entries) refl
          (λ count is.
          settled_live count (held_found _ count is (sym c.settle_one.ensures.free ∙ c.if-settle_one.false)))
          ∙ was.ends);
      pooled =
          (c.settle_one.ensures.pooled.0 ∙ was.pooled.0, c.settle_one.ensures.pooled.1 ∙ was.pooled.1);
    }

pub returns-clause-oldest : goal.returns-clause-oldest
returns-clause-oldest c =
    let was = c.loop-place.invariant in
    rw (sym was.counts, sym was.ends)
    (sym (none_waits (heap_items c.loop-place.loose) (sym c.loop-place.loose.data.ok.0 ∙ c.in_default.ensures.none)
    c.loop-place.pool.entries was.stand.each))
