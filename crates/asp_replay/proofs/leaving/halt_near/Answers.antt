use Rattle.asp_desk.specs.Calls.{Halts}
use Rattle.asp_desk.specs.Hands.{rules_at}
use Rattle.asp_replay.proofs.LeftNear.{halt_grows, halt_stands}
use Rattle.asp_replay.proofs.Others.{lead_turn}
use Rattle.asp_replay.proofs.leaving.halt_near.Goals as goal

pub returns-clause-lead : goal.returns-clause-lead
returns-clause-lead g c = lead_turn g.R.Runner.meaning g.R.Runner.stands c.args.host.now
    (Halts c.args.hand.now.lane.number) c.args.hand.now c.halt.new.hand tt c.requires c.halt.ensures.hand
    c.halt.ensures.turn

pub returns-clause-silent : goal.returns-clause-silent
returns-clause-silent g c = λ borne. halt_grows (rules_at g.R.Runner.meaning c.args.host.now) c.args.hand.now.lane
    c.halt.new.hand.lane c.halt.ensures.turn c.requires.own c.requires.number borne

pub returns-clause-halted : goal.returns-clause-halted
returns-clause-halted g c = halt_stands (rules_at g.R.Runner.meaning c.args.host.now) c.args.hand.now.lane
    c.halt.new.hand.lane c.halt.ensures.turn
