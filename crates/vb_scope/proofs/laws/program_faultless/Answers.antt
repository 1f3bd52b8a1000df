use Rattle.vb_scope.proofs.OneProgram.{program_faultless_lem}
use Rattle.vb_scope.proofs.laws.program_faultless.Goals as goal

pub returns : goal.returns
returns c = program_faultless_lem
