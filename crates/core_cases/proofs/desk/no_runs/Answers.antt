use Rattle.core_cases.proofs.Lanes.{none_more}
use Rattle.core_cases.proofs.desk.no_runs.Goals as goal

pub loop-preserved : goal.loop-preserved
loop-preserved g c = rw c.in_ok-push.ensures.items (none_more _ c.loop.invariant)
