use Rattle.std.proofs.Common.{◌≡◌}
use Rattle.asp_desk.specs.Hands.{rules_at}
use Rattle.asp_serve.proofs.Coming.{again_then, asked_then}
use Rattle.asp_serve.proofs.admitting.ask_round.Goals as goal

pub returns-in-None-clause-again : goal.returns-in-None-clause-again
returns-in-None-clause-again g c = again_then (rules_at g.R.Runner.meaning c.args.host.now) c.args.hand.now.lane
    c.ask.new.hand.lane c.work_on.new.hand.lane c.work_on.result c.in-None.ensures.again c.work_on.ensures.again

pub returns-in-None-clause-comes : goal.returns-in-None-clause-comes
returns-in-None-clause-comes g c = λ request same. asked_then (rules_at g.R.Runner.meaning c.args.host.now)
    (λ second. second ≡ c.args.job.now.moment) request c.args.hand.now.lane c.ask.new.hand.lane
    c.work_on.new.hand.lane c.work_on.result c.in-None.ensures.again
    (c.work_on.ensures.comes request c.args.job.now.moment)
