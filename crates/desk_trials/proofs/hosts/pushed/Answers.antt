use Rattle.asp_desk.specs.Hands.{IsHandOf}
use Rattle.desk_trials.proofs.Lanes.{joined}
use Rattle.desk_trials.proofs.hosts.pushed.Goals as goal

pub returns : goal.returns
returns g c =
    joined (IsHandOf g.R.Runner.meaning g.R.Runner.stands c.args.host.now) c.push.new.self c.args.hands c.args.hand
    c.in_ok-push.ensures c.requires.all c.requires.one
