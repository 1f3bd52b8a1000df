use Rattle.desk_trials.proofs.Hands.{placed}
use Rattle.desk_trials.proofs.gates.slices_at_once.Goals as goal

pub work_all-requires-after_bounds : goal.work_all-requires-after_bounds
work_all-requires-after_bounds g c κs within =
    placed g.R.Runner.meaning g.R.Runner.stands c.args.host.now c.args.hands _ c.in-Ok.crew c.in-Ok.ensures.crew
    c.requires
