use Rattle.std.proofs.Common.{◌∙◌, ℕ, List, Option, ap}
use Rattle.asp_acts.specs.declared.course.Way.{Way}
use Rattle.asp_acts.specs.Acts as spec
use Rattle.asp_run.proofs.acting.closes.Goals as goal

pub returns-in_ok-way-in-Ok : goal.returns-in_ok-way-in-Ok
returns-in_ok-way-in-Ok c =
    c.quiet.ensures
    ∙ ap (λ (failure : Option (List ℕ)). spec.quiet failure c.in_ok-way-in-Ok.way) c.in-Ok.ensures
    ∙ ap (λ (way : Way). spec.quiet c.args.course.tally.failure way) c.in_ok-way-in-Ok.ensures
