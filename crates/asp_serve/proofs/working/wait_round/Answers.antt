use Rattle.asp_desk.specs.Hands.{rules_at}
use Rattle.asp_serve.proofs.Coming.{waits_then}
use Rattle.asp_serve.proofs.working.wait_round.Goals as goal

pub returns-in-Ok-clause-waits : goal.returns-in-Ok-clause-waits
returns-in-Ok-clause-waits g c = waits_then (rules_at g.R.Runner.meaning c.args.host.now) c.args.run
    c.args.hand.now.lane c.work.new.hand.lane c.look_for.new.hand.lane c.look_for.result c.in-Ok.ensures.ok
    c.look_for.ensures.waits
