use Rattle.scope_laws.proofs.Undeclared.{undeclared_in_procedure_lem}
use Rattle.scope_laws.proofs.laws.undeclared_in_procedure.Goals as goal

pub returns : goal.returns
returns c = undeclared_in_procedure_lem
