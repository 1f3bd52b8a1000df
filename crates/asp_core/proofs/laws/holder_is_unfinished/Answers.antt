use Rattle.asp_core.proofs.Holding as holding
use Rattle.asp_core.proofs.laws.holder_is_unfinished.Goals as goal

pub returns : goal.returns
returns c = holding.holder_unfinished
