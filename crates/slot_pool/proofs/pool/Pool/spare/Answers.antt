use Rattle.std.proofs.Common.{arith}
use Rattle.slot_pool.proofs.pool.Pool.spare.Goals as goal

pub overflow_sub-left : goal.overflow_sub-left
overflow_sub-left g c = omega (arith, c.self.invariant.next_fits)
