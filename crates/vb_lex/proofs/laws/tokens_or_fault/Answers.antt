use Rattle.vb_lex.proofs.Unique.{tokens_or_fault as apart}
use Rattle.vb_lex.proofs.laws.tokens_or_fault.Goals as goal

pub returns : goal.returns
returns c = apart
