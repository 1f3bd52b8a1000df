use Rattle.asp_lane.proofs.Turns.{begun_turn, stopped_turn}
use Rattle.asp_lane.proofs.turn.begin.Goals as goal

pub returns-in-Ok : goal.returns-in-Ok
returns-in-Ok g c =
    begun_turn g.R.Runner.meaning g.R.Runner.stands c.args.lane c.args.core.now c.begin.new.self c.in-Ok.run'
    c.requires.valid c.requires.free c.in-Ok.ensures.next c.in-Ok.ensures.begun c.in-Ok.ensures.run
    c.in-Ok.ensures.going

pub returns-in-Err : goal.returns-in-Err
returns-in-Err g c =
    rw c.turn_of.ensures (stopped_turn g.R.Runner.meaning g.R.Runner.stands c.args.lane c.args.core.now
    c.begin.new.self c.in-Err.stop c.requires.free c.in-Err.ensures.err c.in-Err.ensures.idle.0
    c.in-Err.ensures.full)
