use Rattle.std.proofs.Common.{◌≡◌, ◌≤◌, length, map, vec_capacity}
use Rattle.asp_desk.specs.Crews.{with_place}
use Rattle.asp_desk.proofs.crew.placed.Given as goal

abbrev pub invariant-loop-hand : goal.invariant-loop-hand
invariant-loop-hand g l = (l.workers.items ≡ map (with_place l.fn.start) l.yielded)
    × (length l.fn.hands.items ≤ vec_capacity l.workers)
