use Rattle.vb_scope.proofs.OneProgram.{program_or_first_fault_lem}
use Rattle.vb_scope.proofs.laws.program_or_first_fault.Goals as goal

pub returns : goal.returns
returns c = program_or_first_fault_lem
