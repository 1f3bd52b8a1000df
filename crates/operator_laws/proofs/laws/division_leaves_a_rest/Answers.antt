use Rattle.operator_laws.proofs.Division.{divides}
use Rattle.operator_laws.proofs.laws.division_leaves_a_rest.Goals as goal

pub returns : goal.returns
returns c = divides
