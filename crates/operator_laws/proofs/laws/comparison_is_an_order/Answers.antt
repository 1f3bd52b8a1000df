use Rattle.std.specs.Cmp.{nat_cmp_total}
use Rattle.std.specs.Cmp.Lexicographic.{lists_total}
use Rattle.operator_laws.proofs.Turning.{compares_round}
use Rattle.operator_laws.proofs.laws.comparison_is_an_order.Goals as goal

pub returns-clause-text_order : goal.returns-clause-text_order
returns-clause-text_order c = lists_total nat_cmp_total

pub returns-clause-turned : goal.returns-clause-turned
returns-clause-turned c = compares_round
