use Rattle.scope_laws.proofs.FewNames.{few_names_lem}
use Rattle.scope_laws.proofs.laws.few_names.Goals as goal

pub returns : goal.returns
returns c = few_names_lem
