use Rattle.asp_command.proofs.Ranges.{replay_within as within}
use Rattle.asp_command.proofs.laws.replay_within.Goals as goal

pub returns : goal.returns
returns c = within
