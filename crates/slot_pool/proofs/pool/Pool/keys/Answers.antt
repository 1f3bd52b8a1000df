use Rattle.slot_pool.proofs.Entries.{all_led}
use Rattle.slot_pool.proofs.pool.Pool.keys.Goals as goal

pub returns : goal.returns
returns g c =
    rw (← c.self.view_is, c.as_slice.ensures.value) (all_led c.self.inside.slots c.self.inside.order.items
    c.self.inside.next c.self.invariant.rising)
