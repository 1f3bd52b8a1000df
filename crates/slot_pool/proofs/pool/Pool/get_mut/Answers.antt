use Rattle.std.proofs.Common.{sym, ap, ◌∙◌, Some, inl, arith}
use Rattle.slot_pool.proofs.Writing.{counted_written, listed_written, length_written, seen_written}
use Rattle.slot_pool.proofs.pool.Pool.get_mut.Goals as goal

pub invariant_of-self-lent : goal.invariant_of-self-lent
invariant_of-self-lent g c w =
    let kept = c.self.invariant in
    let keys = c.self.inside.order.items in
    let old = c.self.inside.slots in
    let at = c.slot_of-slot.result in
    let slot = c.in-Some.found.now in
    let was = sym c.in-Some.ensures.value in
    let length = length_written old at slot was w in
    record {
      rising = kept.rising;
      listed = listed_written old at slot was w keys kept.listed;
      counted = counted_written old at slot was w keys c.self.inside.next kept.rising kept.listed kept.counted;
      within = omega (arith, length, kept.within);
      few = kept.few;
      room = kept.room;
      keys = omega (arith, length, kept.keys);
      key_room = kept.key_room;
      next_fits = kept.next_fits;
      most_fits = kept.most_fits;
    }

pub returns-in-Some : goal.returns-in-Some
returns-in-Some g c =
    let kept = c.self.invariant in
    let keys = c.self.inside.order.items in
    let old = c.self.inside.slots in
    let at = c.slot_of-slot.result in
    let slot = c.in-Some.found.now in
    let was = sym c.in-Some.ensures.value in
    let number = rw was at c.slot_of-slot.ensures.number in
    let found = rw (c.as_slice.ensures.value, was) at c.slot_of-slot.ensures.value in
    rw (← c.self.view_is) (
      (λ i. inl (
        c.value_mut.result.ghost_name,
        λ w. seen_written old at slot was w keys c.self.inside.next
            c.self.inside.made c.self.inside.most c.args.key.number kept.rising kept.listed number i,
      )),
      record { writes_back = tt; value = ap Some c.value_mut.ensures.value ∙ sym found },
    )
