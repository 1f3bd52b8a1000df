use Rattle.std.specs.Prelude.{◌≡◌}
use Rattle.asp_core.specs.Kernel.{IsHostOf}
use Rattle.asp_lane.specs.Turns.{Fits, run_in}
use Rattle.asp_replay.proofs.working.step.Given as goal

abbrev pub invariant-loop : goal.invariant-loop
invariant-loop g l = record {
  host : IsHostOf l.core l.runner l.site;
  fits : Fits g.R.Runner.meaning g.R.Runner.stands l.core 0 (run_in l.hand);
  same : l.core ≡ l.fn.core;
}
