use Rattle.core_cases.specs.Lanes.{AreNone}
use Rattle.core_cases.proofs.desk.no_runs.Given as goal

abbrev pub invariant-loop : goal.invariant-loop
invariant-loop g l = AreNone l.runs.items
