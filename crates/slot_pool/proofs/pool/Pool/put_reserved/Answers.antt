use Rattle.std.proofs.Common.{refl, arith}
use Rattle.slot_pool.proofs.Putting.{entries_put, counted_put, listed_put, rising_put, keys_put}
use Rattle.slot_pool.proofs.Seen.{alike_seen}
use Rattle.slot_pool.proofs.pool.Pool.put_reserved.Goals as goal

pub invariant_of-self : goal.invariant_of-self
invariant_of-self g c =
    let kept = c.self.invariant in
    let put = c.insert_reserved-slot.ensures in
    let free = rw (← c.self.view_is) at c.requires.free in
    let numbers = rw (← c.self.view_is) at c.requires.numbers in
    record {
      rising = rw c.push_reserved.ensures.items (rising_put c.self.inside.order.items c.self.inside.next _ kept.rising refl);
      listed = rw c.push_reserved.ensures.items
          (listed_put c.self.inside.slots _ _ _ put.was_vacant put.updates c.self.inside.order.items _ kept.listed
          refl refl);
      counted = rw c.push_reserved.ensures.items
          (counted_put c.self.inside.slots _ _ _ put.was_vacant put.updates c.self.inside.order.items _ kept.rising
          refl refl kept.counted put.len);
      within = omega (arith, put.len, free);
      few = kept.few;
      room = omega (arith, kept.room, put.capacity);
      keys = rw c.push_reserved.ensures.items (keys_put c.self.inside.order.items _ _ _ kept.keys put.len);
      key_room = omega (arith, kept.key_room, c.push_reserved.ensures.capacity);
      next_fits = omega (arith, numbers);
      most_fits = kept.most_fits;
    }

pub returns-clause-put : goal.returns-clause-put
returns-clause-put g c =
    let kept = c.self.invariant in
    let put = c.insert_reserved-slot.ensures in
    rw (← c.self.view_is) (alike_seen _ _
    (rw c.push_reserved.ensures.items
    (entries_put c.self.inside.slots _ _ _ put.was_vacant put.updates c.self.inside.order.items _ kept.rising
    refl refl)) (omega (arith, put.len)) refl refl)
