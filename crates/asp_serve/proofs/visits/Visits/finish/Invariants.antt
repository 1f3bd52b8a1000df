use Rattle.asp_desk.specs.Hands.{IsHandOf, rules_at}
use Rattle.asp_serve.specs.Visits.{Ends, MayFail}
use Rattle.asp_serve.proofs.visits.Visits.finish.Given as goal

abbrev pub invariant-loop : goal.invariant-loop
invariant-loop g l = IsHandOf g.R.Runner.meaning g.R.Runner.stands l.host l.hand
    × Ends (MayFail g.W.Wire.faults) (rules_at g.R.Runner.meaning l.host) l.initial.hand.lane l.early l.hand.lane
