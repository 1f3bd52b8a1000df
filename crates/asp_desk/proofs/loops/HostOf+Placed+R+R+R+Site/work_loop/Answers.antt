use Rattle.asp_desk.proofs.Rounds.{looped_then, rounds_then}
use Rattle.asp_desk.proofs.Working.{loop_adds}
use Rattle.asp_desk.proofs.loops.HostOf+Placed+R+R+R+Site.work_loop.Goals as goal

pub returns-in-Some-round-clause-slices : goal.returns-in-Some-round-clause-slices
returns-in-Some-round-clause-slices g c = looped_then g.R.Runner.pace g.R.Runner.meaning g.R.Runner.stands
    c.args.self.now (g.G.Gate.may_hold c.args.gate.now) c.args.hand.now c.loop.hand c.round.new.hand
    c.in-Some-round.came_to c.loop.invariant.1 (rw c.in-Some-round.is at c.round.ensures.ends)

pub returns-in-Some-round-clause-work : goal.returns-in-Some-round-clause-work
returns-in-Some-round-clause-work g c =
    let R = g.R.Runner in
    let may_hold = g.G.Gate.may_hold c.args.gate.now in
    loop_adds R.pace R.meaning R.stands c.args.self.now may_hold c.args.hand.now c.round.new.hand
    c.in-Some-round.came_to (looped_then R.pace R.meaning R.stands c.args.self.now may_hold c.args.hand.now c.loop.hand
    c.round.new.hand c.in-Some-round.came_to c.loop.invariant.1 (rw c.in-Some-round.is at c.round.ensures.ends))

pub loop-preserved : goal.loop-preserved
loop-preserved g c = (
  c.round.ensures.hand,
  rounds_then g.R.Runner.pace g.R.Runner.meaning g.R.Runner.stands c.args.self.now
      (g.G.Gate.may_hold c.args.gate.now) c.args.hand.now c.loop.hand c.round.new.hand c.loop.invariant.1
      (rw c.in_default.is at c.round.ensures.goes),
)
