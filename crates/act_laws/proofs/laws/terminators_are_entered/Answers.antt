use Rattle.act_laws.proofs.Entries.{all_entered}
use Rattle.act_laws.proofs.laws.terminators_are_entered.Goals as goal

pub returns : goal.returns
returns g c = all_entered _
