use Rattle.desk_trials.proofs.Hands.{carried}
use Rattle.desk_trials.proofs.gates.closed_at_last.Goals as goal

pub worked-requires : goal.worked-requires
worked-requires g c =
    carried g.R.Runner.meaning g.R.Runner.stands c.args.host c.args.hands c.in_ok-host.host c.in_ok-host.hands
    c.in_ok-host.ensures.host c.in_ok-host.ensures.hands c.requires
