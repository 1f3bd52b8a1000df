use Rattle.asp_lane.specs.Turns.{run_in}
use Rattle.asp_replay.proofs.Worked.{worked_in_hand}
use Rattle.asp_replay.proofs.working.work.Goals as goal

pub returns-in-Runs : goal.returns-in-Runs
returns-in-Runs g c =
    let run = c.in-Runs.run' in
    let fits = rw c.in-Runs.is at c.requires.hand in
    worked_in_hand g.R.Runner.meaning g.R.Runner.stands c.args.core.now c.step.new.core (run_in c.step.result.0)
    c.step.result.1 run.number fits.0.alone (c.step.ensures run.number fits.0.alone)
