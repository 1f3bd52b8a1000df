use Rattle.asp_acts.proofs.Balance.{runs_end}
use Rattle.asp_acts.proofs.laws.objects_end_in_runs.Goals as goal

pub returns : goal.returns
returns c = runs_end
