use Rattle.std.proofs.Common.{◌≡◌, Option, Some, subst}
use Rattle.asp_desk.specs.Calls.{Halts}
use Rattle.asp_desk.specs.Hands.{rules_at}
use Rattle.asp_serve.specs.declared.visits.Early.{Early}
use Rattle.asp_serve.specs.Visits.{Ends, MayFail}
use Rattle.asp_serve.proofs.Visiting.{ends_later, ends_then, later_turn}
use Rattle.asp_serve.proofs.visits.Visits.visit.Goals as goal

pub returns-in-Some-Some-clause-comes : goal.returns-in-Some-Some-clause-comes
returns-in-Some-Some-clause-comes g c =
    let fails = MayFail g.W.Wire.faults in
    let rules = rules_at g.R.Runner.meaning c.args.host.now in
    let a = c.args.hand.now.lane in
    let n = c.next.new.hand.lane in
    let s = c.serve.new.hand.lane in
    let d = c.halt.new.hand.lane in
    let is : c.in-Some-Some.field-0 ≡ Some c.in-Some-Some.early = cc c.in-Some-Some.field-0-is in
    let ends = ends_later fails rules a n s (Some c.in-Some-Some.early) c.next.ensures.later
    (subst (λ (made : Option Early). Ends fails rules n made s) is c.in-Some-Some.ensures.comes) in
    ends_then fails rules a s d (Some c.in-Some-Some.early) ends
    (later_turn (Halts s.number) s d tt c.halt.ensures.turn)
