use Rattle.asp_serve.proofs.Hearing.{fed_none, fed_same, heard_given, heard_then}
use Rattle.asp_serve.proofs.reading.read_request.Goals as goal

pub loop-init : goal.loop-init
loop-init g c = fed_none _ _

pub returns-in-Some-given : goal.returns-in-Some-given
returns-in-Some-given g c = heard_then _ _ _ _ _ _ _ c.loop.invariant
    (heard_given
    (record {
      left = g.L.Link.left c.loop.link;
      held = g.L.Link.held c.loop.link;
      faults = g.L.Link.faults c.loop.link;
    }) _ _ _ (c.in-Some-given.ensures.some
    (record {
      left = g.L.Link.left c.loop.link;
      held = g.L.Link.held c.loop.link;
      faults = g.L.Link.faults c.loop.link;
    })))

pub returns-in-Some-read_more : goal.returns-in-Some-read_more
returns-in-Some-read_more g c =
    heard_then _ _ _ _ _ _ _ (fed_same _ _ _ _ _ c.in_default.ensures.none.0 c.loop.invariant)
    c.in-Some-read_more.ensures.ends
