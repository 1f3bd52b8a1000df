use Rattle.vb_scope.proofs.OneProgram.{one_program_lem}
use Rattle.vb_scope.proofs.laws.one_program.Goals as goal

pub returns : goal.returns
returns c = one_program_lem
