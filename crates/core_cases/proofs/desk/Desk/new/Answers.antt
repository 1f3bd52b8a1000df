use Rattle.core_cases.proofs.Lanes.{desk_fresh}
use Rattle.core_cases.proofs.desk.Desk.new.Goals as goal

pub invariant_of-result : goal.invariant_of-result
invariant_of-result g c =
    desk_fresh g.R.Runner.meaning g.R.Runner.stands c.in_ok-core.core 0 c.args.runner c.args.site
    c.in_ok-runs.runs.items
    c.in_ok-core.ensures.host c.in_ok-runs.ensures
