use Rattle.std.proofs.Common.{◌≡◌, ◌≤◌, ◌+◌, length, map, vec_capacity}
use Rattle.asp_desk.specs.Opening.{free_hand}
use Rattle.asp_desk.proofs.opening.dealt.Given as goal

abbrev pub invariant-loop-lane : goal.invariant-loop-lane
invariant-loop-lane g l = (l.hands.items ≡ map free_hand l.yielded)
    × (length l.stores.items + length l.yielded ≡ length l.fn.lanes.items)
    × (length l.fn.lanes.items ≤ vec_capacity l.hands)
