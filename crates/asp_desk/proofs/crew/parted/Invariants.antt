use Rattle.std.proofs.Common.{◌≡◌, ◌≤◌, length, map, vec_capacity}
use Rattle.asp_desk.proofs.crew.parted.Given as goal

abbrev pub invariant-loop-worker : goal.invariant-loop-worker
invariant-loop-worker g l = (l.hands.items ≡ map (λ worker. worker.hand) l.yielded)
    × (l.made.items ≡ map (λ worker. worker.made) l.yielded)
    × (length l.fn.workers.items ≤ vec_capacity l.hands) × (length l.fn.workers.items ≤ vec_capacity l.made)
