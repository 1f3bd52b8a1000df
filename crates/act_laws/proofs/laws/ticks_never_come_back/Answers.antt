use Rattle.act_laws.proofs.NoneBack.{none_back}
use Rattle.act_laws.proofs.laws.ticks_never_come_back.Goals as goal

pub returns : goal.returns
returns g c = none_back _
