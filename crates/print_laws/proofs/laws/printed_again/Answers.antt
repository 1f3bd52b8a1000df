use Rattle.print_laws.proofs.UnitPrinting.{printed_again}
use Rattle.print_laws.proofs.laws.printed_again.Goals as goal

pub returns : goal.returns
returns c = printed_again
