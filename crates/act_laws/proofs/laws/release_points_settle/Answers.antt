use Rattle.act_laws.proofs.Settled.{settles_once}
use Rattle.act_laws.proofs.laws.release_points_settle.Goals as goal

pub returns : goal.returns
returns g c = settles_once _
