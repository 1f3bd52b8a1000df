use Rattle.asp_desk.specs.Hands.{IsHandOf}
use Rattle.asp_serve.proofs.starting.start.Given as goal

abbrev pub invariant-loop : goal.invariant-loop
invariant-loop g l = IsHandOf g.R.Runner.meaning g.R.Runner.stands l.host l.hand
