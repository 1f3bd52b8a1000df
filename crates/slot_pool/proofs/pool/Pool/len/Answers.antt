use Rattle.std.proofs.Common.{arith}
use Rattle.slot_pool.proofs.pool.Pool.len.Goals as goal

pub overflow_cast-result : goal.overflow_cast-result
overflow_cast-result g c = omega (arith, c.self.invariant.within, c.self.invariant.few, c.self.invariant.most_fits)
