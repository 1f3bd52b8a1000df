-- What a slab of slots ends as, where a `&mut` to the value of one is returned.
use Rattle.std.specs.Borrow.{Lends, Fml, RattleType, MutBor}
use Rattle.slot_pool.specs.declared.slot.Slot.{Slot}
use Rattle.slot_pool.specs.contracts.slot.Slot.{the_row as slot_row}

module _ (T : RattleType) where
  -- once the borrow ends, the slot has the last value written through it
  abbrev pub lends_inner : MutBor (Slot T.Denot) → MutBor T.Denot → Fml
  lends_inner s r = Lends (slot_row T) T s r (λ w. record s.now { value = w })
