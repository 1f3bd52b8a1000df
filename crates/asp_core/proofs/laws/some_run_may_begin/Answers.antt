use Rattle.asp_core.proofs.Idling as idling
use Rattle.asp_core.proofs.laws.some_run_may_begin.Goals as goal

pub returns : goal.returns
returns c = idling.none_waits
