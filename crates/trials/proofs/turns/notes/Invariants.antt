use Rattle.turn_desk.specs.Shown.{IsLaneOf}
use Rattle.trials.proofs.turns.notes.Given as goal

abbrev pub invariant-loop-place : goal.invariant-loop-place
invariant-loop-place g l = IsLaneOf l.desk l.lane
