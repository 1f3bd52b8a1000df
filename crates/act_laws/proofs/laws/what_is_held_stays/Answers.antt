use Rattle.act_laws.proofs.HeldLaw.{held_stays}
use Rattle.act_laws.proofs.laws.what_is_held_stays.Goals as goal

pub returns : goal.returns
returns g c = held_stays _
