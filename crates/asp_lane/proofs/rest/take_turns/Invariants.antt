use Rattle.asp_core.specs.Kernel.{IsHostOf}
use Rattle.asp_lane.specs.Rest.{Turned}
use Rattle.asp_lane.specs.Turns.{Fits, run_in}
use Rattle.asp_lane.proofs.rest.take_turns.Given as goal

abbrev pub invariant-loop : goal.invariant-loop
invariant-loop g l = record {
  host : IsHostOf l.core l.runner l.site;
  fits : Fits g.R.Runner.meaning g.R.Runner.stands l.core l.lane (run_in l.load);
  turned :
      Turned g.R.Runner.meaning g.R.Runner.stands l.lane l.fn.core (run_in l.fn.load) l.counter l.core (run_in l.load);
}
