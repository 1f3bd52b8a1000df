use Rattle.std.proofs.Common.{◌≡◌, ◌≤◌, length, vec_capacity}
use Rattle.asp_replay.proofs.dealing.moved.Given as goal

abbrev pub invariant-loop-hand : goal.invariant-loop-hand
invariant-loop-hand g l = (l.room.items ≡ l.yielded) × (length l.fn.hands.items ≤ vec_capacity l.room)
    × (vec_capacity l.room ≡ vec_capacity l.fn.room)
