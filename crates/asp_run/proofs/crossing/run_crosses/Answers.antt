use denote.Param.Send.{sendable}
use Rattle.asp_run.proofs.Moved.{run}
use Rattle.asp_run.proofs.crossing.run_crosses.Goals as goal

pub crosses-requires-send-T : goal.crosses-requires-send-T
crosses-requires-send-T c κs = search (run, sendable) depth 40 fits 20000
