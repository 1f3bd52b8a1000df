use Rattle.core_laws.proofs.Wanting as wanting
use Rattle.core_laws.proofs.laws.calls_follow.Goals as goal

pub returns : goal.returns
returns c = wanting.calls_follow
