use Rattle.std.proofs.Common.{[], List, ℕ, arith, subst, sym}
use Rattle.asp_desk.specs.Hands.{rules_at}
use Rattle.asp_serve.specs.Served.{LinkView}
use Rattle.asp_serve.specs.Steps.{GoesOn}
use Rattle.asp_serve.proofs.Stepping.{begins_so, ends_so, goes_more}
use Rattle.asp_serve.proofs.serving.serve_link.Goals as goal

pub loop-count-init : goal.loop-count-init
loop-count-init g c =
    let m = rules_at g.R.Runner.meaning c.args.host.now in
    let may = g.C.Clock.may_give c.args.clock.now in
    let a = c.args.hand.now.lane in
    let link : LinkView = record {
      left = g.L.Link.left c.args.link.now;
      held = g.L.Link.held c.args.link.now;
      faults = g.L.Link.faults c.args.link.now;
    } in (
      c.requires.hand,
      c.requires.free,
      omega arith,
      subst (λ (r : List ℕ). GoesOn m may 0 [] r a a link link 0) (sym c.new-reader.ensures.nothing)
          (begins_so m may a link),
    )

pub loop-count-preserved : goal.loop-count-preserved
loop-count-preserved g c = (
  c.serve_one.ensures.hand,
  c.in_default.ensures.free,
  c.in_default.ensures.last,
  goes_more (rules_at g.R.Runner.meaning c.args.host.now) (g.C.Clock.may_give c.args.clock.now) c.loop-count.count
      c.args.hand.now.lane c.loop-count.hand.lane c.serve_one.new.hand.lane _ _ _ c.loop-count.reader
      c.serve_one.new.reader c.loop-count.invariant.3 c.in_default.ensures.comes
      c.serve_one.ensures.hand.1.valid.entries,
)

pub returns-in-Some-clause-served : goal.returns-in-Some-clause-served
returns-in-Some-clause-served g c = ends_so (rules_at g.R.Runner.meaning c.args.host.now)
    (g.C.Clock.may_give c.args.clock.now) c.loop-count.count c.args.hand.now.lane c.loop-count.hand.lane
    c.serve_one.new.hand.lane _ _ _ c.loop-count.reader c.in-Some.ended c.loop-count.invariant.3
    c.in-Some.ensures.comes c.serve_one.ensures.hand.1.valid.entries
