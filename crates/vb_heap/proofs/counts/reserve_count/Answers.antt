use Rattle.std.proofs.Common.{arith}
use Rattle.vb_heap.proofs.Waiting.{apart_few}
use Rattle.vb_heap.proofs.counts.reserve_count.Goals as goal

pub returns-clause-free : goal.returns-clause-free
returns-clause-free c =
    let made = c.in_ok-reserve-2.ensures.room in
    rw made
    (omega (arith, apart_few c.counts.inside.pool.entries, c.in_ok-reserve.ensures.ok, c.len.ensures.value))
