use Rattle.core_laws.proofs.Lanes as lanes
use Rattle.core_laws.proofs.Ordering as ordering
use Rattle.core_laws.proofs.laws.answers_in_order.Goals as goal

pub returns-clause-made : goal.returns-clause-made
returns-clause-made c = ordering.both_more

pub returns-clause-hand_out : goal.returns-clause-hand_out
returns-clause-hand_out c = ordering.hand_out

pub returns-clause-all : goal.returns-clause-all
returns-clause-all c = ordering.in_order

pub returns-clause-lanes : goal.returns-clause-lanes
returns-clause-lanes c = lanes.lanes_in_order
