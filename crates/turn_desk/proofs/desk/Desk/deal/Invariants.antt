use Rattle.std.proofs.Common.{◌≡◌, ◌≤◌, vec_len, vec_capacity}
use Rattle.turn_desk.proofs.Dealing.{Deals}
use Rattle.turn_desk.proofs.desk.Desk.deal.Given as goal

abbrev pub invariant-loop-number : goal.invariant-loop-number
invariant-loop-number g l = (l.seat.table_id ≡ l.self.id) × (l.self.lanes ≤ vec_capacity l.lanes)
    × (vec_len l.lanes ≡ l.number) × Deals g.S.Stands.lane_of l.self l.number l.lanes.items l.seat.me
    l.fn.seat.me.0.lanes
