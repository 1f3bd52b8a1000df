use Rattle.operator_laws.proofs.Commuting.{and_commutes, or_commutes, xor_commutes, eqv_commutes}
use Rattle.operator_laws.proofs.laws.logic_commutes.Goals as goal

pub returns-clause-and : goal.returns-clause-and
returns-clause-and c = and_commutes

pub returns-clause-or : goal.returns-clause-or
returns-clause-or c = or_commutes

pub returns-clause-xor : goal.returns-clause-xor
returns-clause-xor c = xor_commutes

pub returns-clause-eqv : goal.returns-clause-eqv
returns-clause-eqv c = eqv_commutes
