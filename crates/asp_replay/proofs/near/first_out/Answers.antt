use Rattle.asp_desk.specs.Calls.{CollectsFirst}
use Rattle.asp_desk.specs.Hands.{rules_at}
use Rattle.asp_replay.proofs.Others.{lead_turn}
use Rattle.asp_replay.proofs.TakenNear.{told_none, told_some}
use Rattle.asp_replay.proofs.near.first_out.Goals as goal

pub returns-clause-lead : goal.returns-clause-lead
returns-clause-lead g c =
    let a = c.args.hand.now in
    lead_turn g.R.Runner.meaning g.R.Runner.stands c.args.host.now
    (CollectsFirst (rules_at g.R.Runner.meaning c.args.host.now) a.lane.number) a c.collect_first.new.hand
    c.collect_first.result c.requires c.collect_first.ensures.hand c.collect_first.ensures.turn

pub returns-clause-some : goal.returns-clause-some
returns-clause-some g c = told_some (rules_at g.R.Runner.meaning c.args.host.now) c.args.hand.now.lane
    c.collect_first.new.hand.lane c.collect_first.result c.collect_first.ensures.turn c.requires.own c.requires.number
    c.collect_first.ensures.hand.1.valid.entries

pub returns-clause-none : goal.returns-clause-none
returns-clause-none g c = told_none (rules_at g.R.Runner.meaning c.args.host.now) c.args.hand.now.lane
    c.collect_first.new.hand.lane c.collect_first.result c.collect_first.ensures.turn c.requires.own c.requires.number
    c.collect_first.ensures.hand.1.valid.entries
