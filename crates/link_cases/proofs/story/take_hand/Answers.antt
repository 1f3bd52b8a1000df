use Rattle.asp_desk.specs.Hands.{IsHandOf}
use Rattle.link_cases.proofs.Hands.{last_and_others}
use Rattle.link_cases.proofs.story.take_hand.Goals as goal

pub returns-clause-rest : goal.returns-clause-rest
returns-clause-rest g c =
    (last_and_others (IsHandOf g.R.Runner.meaning g.R.Runner.stands c.args.host.now) c.args.hands.now c.pop.new.self
    c.pop.result c.pop.ensures c.requires).0

pub returns-clause-hand : goal.returns-clause-hand
returns-clause-hand g c =
    (last_and_others (IsHandOf g.R.Runner.meaning g.R.Runner.stands c.args.host.now) c.args.hands.now c.pop.new.self
    c.pop.result c.pop.ensures c.requires).1
