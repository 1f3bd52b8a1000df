use Rattle.act_laws.proofs.Entries.{entries_nothing}
use Rattle.act_laws.proofs.laws.entries_change_nothing.Goals as goal

pub returns : goal.returns
returns g c = entries_nothing _
