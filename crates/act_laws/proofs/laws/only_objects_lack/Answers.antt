use Rattle.act_laws.proofs.Lacking.{objects_lack}
use Rattle.act_laws.proofs.laws.only_objects_lack.Goals as goal

pub returns : goal.returns
returns g c = objects_lack _
