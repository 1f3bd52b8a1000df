use Rattle.std.proofs.Common.{◌∙◌}
use Rattle.turn_desk.proofs.Gathering.{gathers, own_more}
use Rattle.turn_desk.proofs.desk.Desk.gather.Goals as goal

pub loop-lane-preserved : goal.loop-lane-preserved
loop-lane-preserved g c =
    let inv = c.loop-lane.invariant in (
      c.absorb.ensures.desk ∙ inv.0,
      gathers c.args.self.now c.loop-lane.lanes.items c.pop-in-loop-lane.new.self.items c.in-Some-pop.lane
          c.loop-lane.seat.me c.absorb.new.seat.me c.args.lanes.items inv.1 c.in-Some-pop.ensures.items
          c.absorb.ensures.lanes,
      own_more g.S.Stands.lane_of c.in-Some-pop.lane c.loop-lane.seat.me c.absorb.new.seat.me c.absorb.ensures.lanes
          c.absorb.ensures.own inv.2,
    )
