use Rattle.act_laws.proofs.Finishing.{objects_ended}
use Rattle.act_laws.proofs.laws.objects_end.Goals as goal

pub returns : goal.returns
returns g c = objects_ended _
