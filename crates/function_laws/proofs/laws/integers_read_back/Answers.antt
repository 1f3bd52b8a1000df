use Rattle.function_laws.proofs.ReadBack.{hex_of_integer, oct_of_integer}
use Rattle.function_laws.proofs.laws.integers_read_back.Goals as goal

pub returns-clause-hex : goal.returns-clause-hex
returns-clause-hex c = hex_of_integer c.args.n c.ranges.n

pub returns-clause-oct : goal.returns-clause-oct
returns-clause-oct c = oct_of_integer c.args.n c.ranges.n
