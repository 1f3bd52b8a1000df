use Rattle.vb_parse.proofs.ParseScript.{no_fault}
use Rattle.vb_parse.proofs.laws.unit_faultless.Goals as goal

pub returns : goal.returns
returns c = no_fault
