use Rattle.operator_laws.proofs.Commuting.{sum_commutes, product_commutes}
use Rattle.operator_laws.proofs.laws.sums_and_products_commute.Goals as goal

pub returns-clause-sum : goal.returns-clause-sum
returns-clause-sum c = sum_commutes

pub returns-clause-product : goal.returns-clause-product
returns-clause-product c = product_commutes
