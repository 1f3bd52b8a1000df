use Rattle.asp_replay.proofs.Closing.{all_helped}
use Rattle.asp_replay.proofs.lanes.lead_crew.Goals as goal

pub returns-clause-crew : goal.returns-clause-crew
returns-clause-crew g c = all_helped g.R.Runner.meaning g.R.Runner.stands c.args.host.now g.R.Runner.pace
    (g.G.Gate.may_hold c.args.gate.now) c.args.crew.now c.work_beside.new.crew c.work_beside.ensures.crew
