use Rattle.std.proofs.Common.{refl}
use Rattle.operator_laws.proofs.laws.implication_is_its_table.Goals as goal

pub returns : goal.returns
returns c = (refl, (refl, (refl, (refl, (refl, (refl, (refl, (refl, (refl, tt)))))))))
