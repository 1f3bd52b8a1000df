use Rattle.std.proofs.Common.{arith}
use Rattle.asp_session.proofs.Spelling.{number_more, stays_small, small_enough}
use Rattle.asp_session.proofs.cookie.number_of.Goals as goal

pub overflow_mul-number : goal.overflow_mul-number
overflow_mul-number c =
    let small = small_enough c.loop-place.number c.loop-place.place c.loop-place.invariant.small (omega arith) in omega arith
