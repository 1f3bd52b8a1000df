use Rattle.std.proofs.Common.{Some, refl}
use Rattle.asp_desk.specs.Hands.{rules_at}
use Rattle.asp_serve.proofs.Coming.{waits_then}
use Rattle.asp_serve.proofs.Lanes.{works_none, works_then}
use Rattle.asp_serve.proofs.working.wait_for.Goals as goal

pub loop-init : goal.loop-init
loop-init g c = (c.requires, works_none c.args.hand.now.lane c.args.hand.now.lane refl)

pub loop-preserved : goal.loop-preserved
loop-preserved g c = (
  c.wait_round.ensures.hand,
  works_then c.args.hand.now.lane c.loop.hand.lane c.wait_round.new.hand.lane c.loop.invariant.1
      (rw c.in_default.is at c.wait_round.ensures.waits),
)

pub returns-in-Some-wait_round-clause-waits : goal.returns-in-Some-wait_round-clause-waits
returns-in-Some-wait_round-clause-waits g c = waits_then (rules_at g.R.Runner.meaning c.args.host.now) c.args.run
    c.args.hand.now.lane c.loop.hand.lane c.wait_round.new.hand.lane (Some c.in-Some-wait_round.came)
    c.loop.invariant.1 (rw c.in-Some-wait_round.is at c.wait_round.ensures.waits)
