use Rattle.std.proofs.Common.{◌≡◌, false, ap, subst, ◌∙◌}
use Rattle.asp_job.specs.Runs.{unfinished}
use Rattle.asp_core.specs.Kernel.{past_of}
use Rattle.asp_lane.specs.Turns.{run_in}
use Rattle.asp_replay.proofs.Worked.{one_step}
use Rattle.asp_replay.specs.Underway.{HasStepped, is_more}
use Rattle.asp_replay.proofs.working.step.Goals as goal

pub returns-then-not-is_more : goal.returns-then-not-is_more
returns-then-not-is_more g c = λ run alone.
    let ended : is_more c.take_turn-next.result.1 ≡ false = (let told = c.is_more.ensures in
    let test = c.if-not-is_more.true in let one = c.if-not-is_more.ensures in cc) in
    let fits = c.loop.invariant.fits in
    subst (λ core. HasStepped g.R.Runner.meaning g.R.Runner.stands core run c.take_turn-next.new.core
    (run_in c.take_turn-next.result.0) c.take_turn-next.result.1) c.loop.invariant.same
    (one_step g.R.Runner.meaning g.R.Runner.stands c.loop.core c.take_turn-next.new.core
    (run_in c.loop.hand) (run_in c.take_turn-next.result.0) c.take_turn-next.result.1 run fits
    (ap (λ core. unfinished (past_of core)) c.loop.invariant.same ∙ alone) c.take_turn-next.ensures.turn ended)
