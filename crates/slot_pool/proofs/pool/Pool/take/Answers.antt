use Rattle.std.proofs.Common.{◌≡◌, refl, sym, ap, ◌∙◌, None, length, arith}
use Rattle.std.specs.Option.{option_map}
use Rattle.slot_pool.specs.declared.slot.Slot.{Slot}
use Rattle.slot_pool.specs.Inside.{entries_of}
use Rattle.slot_pool.specs.Pool.{found_in}
use Rattle.slot_pool.proofs.Taking.{entries_taken, listed_taken, counted_taken, left_one, left_none, entries_tidied}
use Rattle.slot_pool.proofs.Taking.{listed_tidied, rising_tidied, few_tidied}
use Rattle.slot_pool.proofs.pool.Pool.take.Goals as goal

pub invariant_of-self : goal.invariant_of-self
invariant_of-self g c =
    let kept = c.self.invariant in
    let keys = c.self.inside.order.items in
    let was = sym c.try_remove.ensures.value ∙ c.in-Some.is in
    let number = rw was at c.slot_of-slot.ensures.number in
    let found = rw (c.as_slice.ensures.value, was) at c.slot_of-slot.ensures.value in
    let counted = counted_taken c.self.inside.slots c.try_remove.new.self c.slot_of-slot.result c.in-Some.field-0 was
    c.try_remove.ensures.updates keys c.self.inside.next kept.rising kept.listed
    (rw number found) kept.counted c.in-Some.ensures.len in
    record {
      rising = rw c.tidy.ensures.swept (rising_tidied c.try_remove.new.self keys c.self.inside.next kept.rising);
      listed = rw c.tidy.ensures.swept
          (listed_tidied c.try_remove.new.self keys
          (listed_taken c.self.inside.slots c.try_remove.new.self c.slot_of-slot.result c.in-Some.field-0 was
          c.try_remove.ensures.updates keys kept.listed));
      counted = rw c.tidy.ensures.swept (ap length (entries_tidied c.try_remove.new.self keys) ∙ counted);
      within = omega (arith, kept.within, c.in-Some.ensures.len);
      few = kept.few;
      room = omega (arith, kept.room, c.try_remove.ensures.capacity);
      keys = rw c.tidy.ensures.swept (few_tidied c.try_remove.new.self keys counted);
      key_room = omega (arith, kept.key_room, c.tidy.ensures.room);
      next_fits = kept.next_fits;
      most_fits = kept.most_fits;
    }

pub returns-in-Some-clause-left : goal.returns-in-Some-clause-left
returns-in-Some-clause-left g c =
    let kept = c.self.invariant in
    let keys = c.self.inside.order.items in
    let was = sym c.try_remove.ensures.value ∙ c.in-Some.is in
    let number = rw was at c.slot_of-slot.ensures.number in
    let found = rw (c.as_slice.ensures.value, was) at c.slot_of-slot.ensures.value in
    let entries = rw number at (entries_taken c.self.inside.slots c.try_remove.new.self c.slot_of-slot.result
    c.in-Some.field-0 was c.try_remove.ensures.updates keys c.self.inside.next kept.rising kept.listed) in
    rw (← c.self.view_is) (left_one _ _ c.args.key.number c.in-Some.field-0.value found
    (rw c.tidy.ensures.swept (entries_tidied c.try_remove.new.self keys ∙ entries))
    (omega (arith, kept.within, c.in-Some.ensures.len)) refl refl)

pub returns-in-None-clause-left : goal.returns-in-None-clause-left
returns-in-None-clause-left g c =
    let none : found_in c.args.key.number (entries_of c.self.inside.slots c.self.inside.order.items) ≡ None =
    rw (← c.as_slice.ensures.value) (c.slot_of-slot.ensures.value
    ∙ ap (option_map (λ (slot : Slot g.row.T.Denot). slot.value)) (sym c.try_remove.ensures.value ∙ c.in-None.is)) in
    rw (← c.self.view_is, c.in-None.ensures.absent) (left_none _ c.args.key.number none)
