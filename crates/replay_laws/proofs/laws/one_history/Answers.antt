use Rattle.replay_laws.proofs.OneHistory as history
use Rattle.replay_laws.proofs.laws.one_history.Goals as goal

pub returns : goal.returns
returns c = history.one_history c.one_front.ensures
