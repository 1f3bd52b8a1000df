use Rattle.std.proofs.Common.{arith}
use Rattle.slot_pool.proofs.Entries.{entries_rise}
use Rattle.slot_pool.proofs.pool.Pool.law.Goals as goal

pub returns-clause-rise : goal.returns-clause-rise
returns-clause-rise g c =
    rw (← c.self.view_is) (entries_rise c.self.inside.slots c.self.inside.order.items 0 c.self.inside.next
    c.self.invariant.rising.rises)

pub returns-clause-within : goal.returns-clause-within
returns-clause-within g c =
    rw (← c.self.view_is) (omega (arith, c.self.invariant.counted, c.self.invariant.within, c.self.invariant.few))
