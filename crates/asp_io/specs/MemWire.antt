-- What contracts see of a wire in memory with calls that fail.
use Rattle.std.specs.Prelude.{List}
use Rattle.asp_io.specs.declared.fault_plan.FaultPlan.{FaultPlan}
use Rattle.asp_io.specs.declared.mem_link.MemLink.{MemLink}

-- the connections that will come, and which calls fail
pub record WireState : Type 0 where
  pub links : List MemLink
  pub plan : FaultPlan
