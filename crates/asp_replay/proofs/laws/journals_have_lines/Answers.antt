use Rattle.asp_replay.proofs.HaveLines.{are_lines}
use Rattle.asp_replay.proofs.laws.journals_have_lines.Goals as goal

pub returns : goal.returns
returns c rules past valid formed ranged = are_lines rules past valid.entries formed ranged
