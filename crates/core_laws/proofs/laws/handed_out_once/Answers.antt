use Rattle.core_laws.proofs.Once.{once_out}
use Rattle.core_laws.proofs.laws.handed_out_once.Goals as goal

pub returns : goal.returns
returns c rules past run right = once_out rules past right run
