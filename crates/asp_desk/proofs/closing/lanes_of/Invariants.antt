use Rattle.std.proofs.Common.{◌≡◌, ◌≤◌, length, map, vec_capacity}
use Rattle.asp_desk.proofs.closing.lanes_of.Given as goal

abbrev pub invariant-loop-hand : goal.invariant-loop-hand
invariant-loop-hand g l = (l.lanes.items ≡ map (λ hand. hand.lane) l.yielded)
    × (length l.fn.hands.items ≤ vec_capacity l.lanes)
