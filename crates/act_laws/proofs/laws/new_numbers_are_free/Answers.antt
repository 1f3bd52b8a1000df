use Rattle.act_laws.proofs.NewNumbers.{new_numbers}
use Rattle.act_laws.proofs.laws.new_numbers_are_free.Goals as goal

pub returns : goal.returns
returns g c = new_numbers _
