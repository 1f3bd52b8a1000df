use Rattle.act_laws.proofs.Once.{run_once}
use Rattle.act_laws.proofs.laws.terminators_run_once.Goals as goal

pub returns : goal.returns
returns g c = run_once _
