use Rattle.std.proofs.Common.{◌≡◌, ◌∙◌, IfSome, Some, subst, sym}
use Rattle.asp_core.specs.Kernel.{past_of, rules_of}
use Rattle.asp_serve.specs.Hosts.{IsStop, first_early}
use Rattle.asp_serve.specs.Visits.{IsEarly, MayFail}
use Rattle.asp_serve.proofs.HostEnds.{early_stops, first_cause}
use Rattle.asp_serve.proofs.hosting.ended_well.Goals as goal

pub returns-in-Some : goal.returns-in-Some
returns-in-Some g c =
    let fails = MayFail g.W.Wire.faults in
    let rules = rules_of g.R.Runner.meaning c.args.core.now in
    let past = past_of c.args.core.now in
    let same : first_early c.args.made.now ≡ Some c.in-Some.early = sym c.first_early.ensures ∙ c.in-Some.is in
    subst (IsStop fails rules) (sym c.from.ensures)
    (early_stops fails rules past c.requires.account c.requires.started c.in-Some.early
    (subst (λ found. IfSome found (IsEarly fails rules past)) same
    (first_cause fails rules past c.args.made.now c.requires.causes)))
