use Rattle.slot_pool.proofs.pool.Pool.at.Goals as goal

pub returns : goal.returns
returns g c = rw (← c.self.view_is) (rw c.as_slice.ensures.value at c.key_of.ensures.found)
