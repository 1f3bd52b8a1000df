use Rattle.act_laws.proofs.Wanting.{objects_alone}
use Rattle.act_laws.proofs.laws.only_objects_want.Goals as goal

pub returns : goal.returns
returns g c = objects_alone _
