use Rattle.replay_laws.proofs.OneOutput as output
use Rattle.replay_laws.proofs.laws.one_output.Goals as goal

pub returns : goal.returns
returns c = output.one_output
