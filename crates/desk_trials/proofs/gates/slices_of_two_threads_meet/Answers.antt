use denote.Param.Send.{sendable}
use Rattle.desk_trials.proofs.Moved.{run}
use Rattle.desk_trials.proofs.gates.slices_of_two_threads_meet.Goals as goal

pub in_two_threads-requires-send-R-State : goal.in_two_threads-requires-send-R-State
in_two_threads-requires-send-R-State c κs = search (run, sendable) depth 40 fits 20000
