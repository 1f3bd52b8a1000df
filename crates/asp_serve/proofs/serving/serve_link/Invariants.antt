use Rattle.std.proofs.Common.{◌≡◌, ◌<◌, [], None}
use Rattle.asp_desk.specs.Hands.{IsHandOf, rules_at}
use Rattle.asp_serve.specs.Steps.{GoesOn}
use Rattle.asp_serve.proofs.serving.serve_link.Given as goal

abbrev pub invariant-loop-count : goal.invariant-loop-count
invariant-loop-count g l = IsHandOf g.R.Runner.meaning g.R.Runner.stands l.host l.hand × (l.hand.run ≡ None)
    × (l.count < 1000)
    × GoesOn (rules_at g.R.Runner.meaning l.host) (g.C.Clock.may_give l.clock) 0 [] l.reader l.initial.hand.lane
    l.hand.lane
    (record {
      left = g.L.Link.left l.initial.link;
      held = g.L.Link.held l.initial.link;
      faults = g.L.Link.faults l.initial.link;
    })
    (record { left = g.L.Link.left l.link; held = g.L.Link.held l.link; faults = g.L.Link.faults l.link }) l.count
