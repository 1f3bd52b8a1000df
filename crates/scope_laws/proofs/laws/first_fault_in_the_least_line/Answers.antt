use Rattle.scope_laws.proofs.FirstLine.{first_least_lem}
use Rattle.scope_laws.proofs.laws.first_fault_in_the_least_line.Goals as goal

pub returns : goal.returns
returns c = first_least_lem
