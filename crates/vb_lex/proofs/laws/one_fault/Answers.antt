use Rattle.vb_lex.proofs.Unique.{fault_one}
use Rattle.vb_lex.proofs.laws.one_fault.Goals as goal

pub returns : goal.returns
returns c = fault_one
