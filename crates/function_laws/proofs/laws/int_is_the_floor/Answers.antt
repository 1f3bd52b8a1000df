use Rattle.function_laws.proofs.Floor.{lowers}
use Rattle.function_laws.proofs.laws.int_is_the_floor.Goals as goal

pub returns : goal.returns
returns c = lowers c.args.amount
