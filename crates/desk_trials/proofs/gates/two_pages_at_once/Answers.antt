use denote.Param.Send.{sendable}
use Rattle.desk_trials.proofs.Moved.{run}
use Rattle.desk_trials.proofs.gates.two_pages_at_once.Goals as goal

pub in_two_threads-requires-send-R-State : goal.in_two_threads-requires-send-R-State
in_two_threads-requires-send-R-State c κs = search (run, sendable) depth 40 fits 20000
