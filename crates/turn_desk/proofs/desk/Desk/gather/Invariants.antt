use Rattle.std.proofs.Common.{◌≡◌, vec_len}
use Rattle.turn_desk.specs.Histories.{Every, own_part}
use Rattle.turn_desk.proofs.Gathering.{Gathers}
use Rattle.turn_desk.proofs.desk.Desk.gather.Given as goal

abbrev pub invariant-loop-lane : goal.invariant-loop-lane
invariant-loop-lane g l = (l.seat.table_id ≡ l.self.id) × Gathers l.self l.lanes.items l.seat.me l.fn.lanes.items
    × Every (λ lane. lane.own ≡ own_part g.S.Stands.lane_of lane.number lane.seen) l.seat.me.0.lanes

abbrev pub decreases-loop-lane : goal.decreases-loop-lane
decreases-loop-lane g l = vec_len l.lanes
