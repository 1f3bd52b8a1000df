use Rattle.asp_replay.specs.Near.{past_in}
use Rattle.asp_replay.proofs.LeftNear.{halted_for, silent_none}
use Rattle.asp_replay.proofs.lanes.leave_begun.Goals as goal

pub returns-in-StartFailed-clause-free : goal.returns-in-StartFailed-clause-free
returns-in-StartFailed-clause-free g c = rw c.in-StartFailed.is at c.requires.free

pub returns-in-StartFailed-clause-silent : goal.returns-in-StartFailed-clause-silent
returns-in-StartFailed-clause-silent g c = λ borne. silent_none (past_in c.args.hand.now)

pub returns-in-StartFailed-clause-halted : goal.returns-in-StartFailed-clause-halted
returns-in-StartFailed-clause-halted g c = rw c.in-StartFailed.is tt

pub returns-in_default-clause-halted : goal.returns-in_default-clause-halted
returns-in_default-clause-halted g c = halted_for c.args.stop (past_in c.wind_near.new.hand) c.wind_near.ensures.halted
