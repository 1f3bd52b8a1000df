-- Which calls of a thing in memory are to fail.
use Rattle.std.specs.Prelude.{Bool, ◌==◌, if◌then◌else◌}
use Rattle.std.specs.List.{list_any}
use Rattle.asp_io.specs.declared.fault_plan.FaultPlan.{FaultPlan}
use Rattle.asp_io.specs.Faults.{counted}

-- whether the next call, by its number, is one of those that are to fail
abbrev pub fails_next : FaultPlan → Bool
fails_next plan = list_any (λ number. number == counted plan.calls) plan.fails

-- the plan with one more fault counted
abbrev pub after_fault : FaultPlan → FaultPlan
after_fault plan = record plan { faults = counted plan.faults }

-- the plan with one more call counted, and a fault where that call is to fail
abbrev pub after_call : FaultPlan → FaultPlan
after_call plan = record plan {
  calls = counted plan.calls;
  faults = if fails_next plan then counted plan.faults else plan.faults;
}
