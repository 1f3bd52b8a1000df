use Rattle.act_laws.proofs.Asking.{asking_alone}
use Rattle.act_laws.proofs.laws.only_asking_changes.Goals as goal

pub returns : goal.returns
returns g c = asking_alone _
