use Rattle.std.proofs.Common.{◌≡◌, true}
use Rattle.asp_lane.specs.Turns.{run_in}
use Rattle.asp_replay.proofs.Worked.{worked_begun}
use Rattle.asp_replay.specs.Underway.{is_done}
use Rattle.asp_replay.proofs.working.begin_and_step.Goals as goal

pub returns : goal.returns
returns g c =
    let done : is_done c.take_turn-hand.result.1 ≡ true = (let told = c.is_done.ensures in
    let test = c.if-not-is_done.false in let one = c.if-not-is_done.ensures in cc) in
    worked_begun g.R.Runner.meaning g.R.Runner.stands c.args.core.now c.take_turn-hand.new.core c.step.new.core
    (run_in c.take_turn-hand.result.0) (run_in c.step.result.0) c.take_turn-hand.result.1 c.step.result.1
    c.requires.valid c.requires.free c.take_turn-hand.ensures.turn done c.step.ensures
