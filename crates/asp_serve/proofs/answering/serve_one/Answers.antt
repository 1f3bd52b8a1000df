use Rattle.std.proofs.Common.{sym, ◌∙◌}
use Rattle.asp_desk.specs.Hands.{rules_at}
use Rattle.http_front.proofs.Bounds.{refused_range}
use Rattle.http_front.proofs.Small.{small_request}
use Rattle.asp_serve.proofs.Collecting.{looks_work}
use Rattle.asp_serve.proofs.Coming.{comes_leaving, comes_refusing, comes_requested}
use Rattle.asp_serve.proofs.Stepping.{comes_faulty, comes_over, comes_unread}
use Rattle.asp_serve.proofs.answering.serve_one.Goals as goal

pub returns-then-is_leaving-clause-comes : goal.returns-then-is_leaving-clause-comes
returns-then-is_leaving-clause-comes g c =
    comes_leaving (rules_at g.R.Runner.meaning c.args.host.now) (g.C.Clock.may_give c.args.clock.now) c.args.count
    c.args.reader.now c.args.reader.now c.look-looked.result c.args.hand.now.lane c.look-looked.new.hand.lane _
    c.look-looked.ensures.turn (sym c.is_leaving.ensures ∙ c.if-is_leaving.true)

pub returns-in-Request-clause-comes : goal.returns-in-Request-clause-comes
returns-in-Request-clause-comes g c =
    let m = rules_at g.R.Runner.meaning c.args.host.now in
    comes_requested m (g.C.Clock.may_give c.args.clock.now) c.args.count
    c.args.reader.now c.read_request.new.reader c.in-Request.request c.args.hand.now.lane c.look-looked.new.hand.lane
    c.answer_request.new.hand.lane _ _ _ c.answer_request.result
    (looks_work m _ _ _ c.look-looked.ensures.turn) c.in-Request.ensures c.answer_request.ensures.comes
    c.answer_request.ensures.hand.1.valid.entries

pub returns-in-Refused-clause-comes : goal.returns-in-Refused-clause-comes
returns-in-Refused-clause-comes g c =
    let m = rules_at g.R.Runner.meaning c.args.host.now in
    let z = c.refuse.ensures.comes in
    comes_refusing m (g.C.Clock.may_give c.args.clock.now) c.args.count
    c.in-Refused.status z.0 z.1 c.args.reader.now c.read_request.new.reader c.args.hand.now.lane
    c.look-looked.new.hand.lane _ _ _ c.refuse.result (looks_work m _ _ _ c.look-looked.ensures.turn)
    c.in-Refused.ensures z.2 z.3 z.4 c.look-looked.ensures.hand.1.valid.entries

pub returns-in-End-clause-comes : goal.returns-in-End-clause-comes
returns-in-End-clause-comes g c =
    let m = rules_at g.R.Runner.meaning c.args.host.now in
    comes_over m (g.C.Clock.may_give c.args.clock.now) c.args.count
    c.rest.result c.args.reader.now c.read_request.new.reader c.args.hand.now.lane c.look-looked.new.hand.lane _ _
    (looks_work m _ _ _ c.look-looked.ensures.turn) c.in-End.ensures c.rest.ensures

pub returns-in-Fault-clause-comes : goal.returns-in-Fault-clause-comes
returns-in-Fault-clause-comes g c =
    let m = rules_at g.R.Runner.meaning c.args.host.now in
    comes_faulty m (g.C.Clock.may_give c.args.clock.now) c.args.count
    c.args.reader.now c.read_request.new.reader c.args.hand.now.lane c.look-looked.new.hand.lane _ _
    (looks_work m _ _ _ c.look-looked.ensures.turn) c.in-Fault.ensures

pub returns-in-Memory-clause-comes : goal.returns-in-Memory-clause-comes
returns-in-Memory-clause-comes g c =
    let m = rules_at g.R.Runner.meaning c.args.host.now in
    comes_unread m (g.C.Clock.may_give c.args.clock.now) c.args.count
    c.args.reader.now c.read_request.new.reader c.args.hand.now.lane c.look-looked.new.hand.lane _ _
    (looks_work m _ _ _ c.look-looked.ensures.turn) c.in-Memory.ensures

pub answer_request-requires-clause-small : goal.answer_request-requires-clause-small
answer_request-requires-clause-small g c =
    let hears = c.in-Request.ensures.hears in small_request _ hears.0 hears.1 _ _ hears.3 hears.2

pub refuse-requires : goal.refuse-requires
refuse-requires g c =
    let range = refused_range _ _ c.in-Refused.ensures.hears in record { most = range.1; least = range.0 }
