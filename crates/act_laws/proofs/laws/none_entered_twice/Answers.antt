use Rattle.act_laws.proofs.Entries.{none_twice}
use Rattle.act_laws.proofs.laws.none_entered_twice.Goals as goal

pub returns : goal.returns
returns g c = none_twice _
