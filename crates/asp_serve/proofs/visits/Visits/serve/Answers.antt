use Rattle.std.proofs.Common.{Option, sym, subst}
use Rattle.asp_desk.specs.Hands.{rules_at}
use Rattle.asp_serve.specs.declared.visits.Early.{Early}
use Rattle.asp_serve.specs.Visits.{Comes, MayFail}
use Rattle.asp_serve.proofs.Visiting.{link_comes}
use Rattle.asp_serve.proofs.visits.Visits.serve.Goals as goal

pub returns-clause-comes : goal.returns-clause-comes
returns-clause-comes g c =
    let fails = MayFail g.W.Wire.faults in
    let rules = rules_at g.R.Runner.meaning c.args.host.now in
    let a = c.args.hand.now.lane in
    let b = c.serve_link-ended.new.hand.lane in
    subst (λ (made : Option (Option Early)). Comes fails rules a made b) (sym c.link_end.ensures)
    (link_comes fails rules (g.C.Clock.may_give c.args.self.now.clock.now) a b _ _ c.serve_link-ended.result
    c.serve_link-ended.ensures.served)
