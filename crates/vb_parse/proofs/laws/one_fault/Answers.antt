use Rattle.vb_parse.proofs.ParseScript.{fault_one}
use Rattle.vb_parse.proofs.laws.one_fault.Goals as goal

pub returns : goal.returns
returns c = fault_one
