use Rattle.asp_core.specs.Kernel.{IsHostOf, past_of, rules_of}
use Rattle.asp_lane.proofs.Called.{HasCalled}
use Rattle.asp_lane.specs.Turns.{Fits, run_in}
use Rattle.asp_lane.specs.Underway.{Grows}
use Rattle.asp_lane.proofs.course.finish.Given as goal

abbrev pub invariant-loop : goal.invariant-loop
invariant-loop g l = record {
  host : IsHostOf l.core l.runner l.site;
  fits : Fits g.R.Runner.meaning g.R.Runner.stands l.core l.lane (run_in l.load);
  grows : Grows l.fn.core l.core;
  called : HasCalled (rules_of g.R.Runner.meaning l.fn.core) l.lane (past_of l.fn.core) l.number (past_of l.core);
}
