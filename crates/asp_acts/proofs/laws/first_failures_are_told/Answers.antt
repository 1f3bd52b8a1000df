use Rattle.asp_acts.proofs.Telling.{runs_tell}
use Rattle.asp_acts.proofs.laws.first_failures_are_told.Goals as goal

pub returns : goal.returns
returns c = runs_tell
