use Rattle.std.specs.Prelude.{◌≡◌, None}
use Rattle.asp_desk.specs.Hands.{IsHandOf}
use Rattle.asp_serve.specs.Visits.{IsLater}
use Rattle.asp_serve.proofs.visits.Visits.visits.Given as goal

abbrev pub invariant-loop : goal.invariant-loop
invariant-loop g l = IsHandOf g.R.Runner.meaning g.R.Runner.stands l.host l.hand × (l.hand.run ≡ None)
    × IsLater l.initial.hand.lane l.hand.lane
