use Rattle.host_laws.proofs.ObjectsEnd.{objects_end}
use Rattle.host_laws.proofs.laws.objects_end.Goals as goal

pub returns : goal.returns
returns c = objects_end c.objects_end_in_runs.ensures
