use Rattle.std.proofs.Common.{All, subst, sym}
use Rattle.asp_desk.specs.Hands.{IsHandOf}
use Rattle.asp_serve.specs.Visits.{IsFreeHand}
use Rattle.asp_serve.proofs.HostEnds.{new_are_free}
use Rattle.asp_serve.proofs.hosting.serve.Goals as goal

pub run-requires-after_bounds : goal.run-requires-after_bounds
run-requires-after_bounds g c bounds lives =
    subst (λ hands. All (IsFreeHand g.R.Runner.meaning g.R.Runner.stands c.in-Ok.host) hands) (sym c.in-Ok.ensures.new)
    (new_are_free g.R.Runner.meaning g.R.Runner.stands c.in-Ok.host
    (subst (λ hands. All (IsHandOf g.R.Runner.meaning g.R.Runner.stands c.in-Ok.host) hands) c.in-Ok.ensures.new
    c.in-Ok.ensures.hands))
