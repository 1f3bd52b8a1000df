use Rattle.std.proofs.Common.{◌≡◌, length}
use Rattle.asp_replay.specs.Workers.{first_stop}
use Rattle.asp_replay.proofs.lanes.first_stop.Given as goal

abbrev pub invariant-loop-made : goal.invariant-loop-made
invariant-loop-made l = first_stop l.made ≡ first_stop l.initial.made

abbrev pub decreases-loop-made : goal.decreases-loop-made
decreases-loop-made l = length l.made
