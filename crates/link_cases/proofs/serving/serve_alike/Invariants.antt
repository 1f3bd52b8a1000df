use Rattle.asp_desk.specs.Hands.{IsHandOf}
use Rattle.link_cases.proofs.serving.serve_alike.Given as goal

abbrev pub invariant-loop : goal.invariant-loop
invariant-loop g l = IsHandOf g.R.Runner.meaning g.R.Runner.stands l.host l.hand
