use Rattle.vb_parse.proofs.ParseScript.{some_answer}
use Rattle.vb_parse.proofs.laws.unit_or_fault.Goals as goal

pub returns : goal.returns
returns c = some_answer
