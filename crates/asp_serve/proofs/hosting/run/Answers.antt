use Rattle.std.proofs.Common.{◌≡◌, ◌∙◌, All, IfSome, None, Option, ap, map, reverse, subst, sym}
use Rattle.asp_core.specs.Kernel.{rules_of}
use Rattle.asp_desk.specs.Crews.{with_place}
use Rattle.asp_desk.specs.declared.worker.WorkerOf.{WorkerOf}
use Rattle.asp_desk.specs.Hands.{rules_at}
use Rattle.asp_serve.specs.declared.visits.Early.{Early}
use Rattle.asp_serve.specs.Hosts.{HasServed}
use Rattle.asp_serve.specs.Visits.{IsEarly, IsFreeHand, MayFail}
use Rattle.asp_serve.proofs.HostEnds.{causes, hands_are, placed_are_free}
use Rattle.asp_serve.proofs.hosting.run.Goals as goal

pub work-hands-requires-after_bounds : goal.work-hands-requires-after_bounds
work-hands-requires-after_bounds g c bounds lives =
    let is = c.in-Ok.ensures.crew ∙ ap (map (with_place None)) c.from_vec.ensures in
    subst (λ crew. All (λ (worker : WorkerOf _ _). IsFreeHand g.R.Runner.meaning g.R.Runner.stands c.args.host worker.hand)
    crew) (sym is)
    (placed_are_free g.R.Runner.meaning g.R.Runner.stands c.args.host c.in_ok-hands.hands.items c.in_ok-hands.ensures.hands)

pub close-requires : goal.close-requires
close-requires g c = hands_are g.R.Runner.meaning g.R.Runner.stands c.args.host (MayFail g.W.Wire.faults)
    c.work-hands.result.0 c.work-hands.result.1 c.work-hands.ensures

pub ended-requires : goal.ended-requires
ended-requires g c =
    let fails = MayFail g.W.Wire.faults in
    let core = c.in-Ok-close.core in
    let here : rules_of g.R.Runner.meaning core ≡ rules_at g.R.Runner.meaning c.args.host =
    ap (rules_of g.R.Runner.meaning) c.in-Ok-close.ensures.core in
    let all = causes g.R.Runner.meaning g.R.Runner.stands c.args.host fails core.journal c.work-hands.result.0
    c.work-hands.result.1 c.work-hands.ensures c.in-Ok-close.ensures.fits in
    subst (λ rules. All (λ (one : Option Early). IfSome one (IsEarly fails rules (reverse core.journal)))
    c.as_slice.result.now) (sym here)
    (subst (λ made. All (λ (one : Option Early). IfSome one (IsEarly fails (rules_at g.R.Runner.meaning c.args.host)
    (reverse core.journal))) made) (sym c.as_slice.ensures) all)

pub returns-in-Ok-close : goal.returns-in-Ok-close
returns-in-Ok-close g c =
    let here : rules_of g.R.Runner.meaning c.in-Ok-close.core ≡ rules_at g.R.Runner.meaning c.args.host =
    ap (rules_of g.R.Runner.meaning) c.in-Ok-close.ensures.core in
    subst (λ rules. HasServed (MayFail g.W.Wire.faults) rules g.W.Wire.ENDS c.args.task.now.requests c.ended.result) here
    c.ended.ensures
