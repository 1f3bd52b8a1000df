use Rattle.desk_trials.proofs.Hands.{carried}
use Rattle.desk_trials.proofs.gates.missed.Goals as goal

pub pushed-requires-clause-all : goal.pushed-requires-clause-all
pushed-requires-clause-all g c =
    carried g.R.Runner.meaning g.R.Runner.stands c.args.host c.args.hands c.in_ok-host.host c.in_ok-host.hands
    c.in_ok-host.ensures.host c.in_ok-host.ensures.hands c.requires.all
