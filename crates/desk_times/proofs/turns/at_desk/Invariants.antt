use Rattle.turn_desk.specs.Shown.{IsLaneOf}
use Rattle.desk_times.proofs.turns.at_desk.Given as goal

abbrev pub invariant-loop : goal.invariant-loop
invariant-loop g l = IsLaneOf l.desk l.lane
