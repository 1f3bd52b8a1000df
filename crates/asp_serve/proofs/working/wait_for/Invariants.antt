use Rattle.asp_desk.specs.Hands.{IsHandOf}
use Rattle.asp_serve.specs.Steps.{Works}
use Rattle.asp_serve.proofs.working.wait_for.Given as goal

abbrev pub invariant-loop : goal.invariant-loop
invariant-loop g l =
    IsHandOf g.R.Runner.meaning g.R.Runner.stands l.host l.hand × Works l.initial.hand.lane l.hand.lane
