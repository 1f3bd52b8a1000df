use Rattle.asp_serve.specs.Steps.{HasFed}
use Rattle.asp_serve.proofs.reading.read_request.Given as goal

abbrev pub invariant-loop : goal.invariant-loop
invariant-loop g l = HasFed
    (record {
      left = g.L.Link.left l.initial.link;
      held = g.L.Link.held l.initial.link;
      faults = g.L.Link.faults l.initial.link;
    })
    (record { left = g.L.Link.left l.link; held = g.L.Link.held l.link; faults = g.L.Link.faults l.link })
    l.initial.reader l.reader
