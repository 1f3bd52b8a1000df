use Rattle.asp_core.proofs.Answering.{are_those}
use Rattle.asp_core.proofs.laws.answers_wait.Goals as goal

pub returns : goal.returns
returns c = are_those
