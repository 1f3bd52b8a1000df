use Rattle.function_laws.proofs.ReadBack.{hex_of_long, oct_of_long}
use Rattle.function_laws.proofs.laws.longs_read_back.Goals as goal

pub returns-clause-hex : goal.returns-clause-hex
returns-clause-hex c = hex_of_long c.args.n c.ranges.n

pub returns-clause-oct : goal.returns-clause-oct
returns-clause-oct c = oct_of_long c.args.n c.ranges.n
