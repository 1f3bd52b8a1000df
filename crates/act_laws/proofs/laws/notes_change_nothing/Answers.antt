use Rattle.act_laws.proofs.Replies.{notes_nothing}
use Rattle.act_laws.proofs.laws.notes_change_nothing.Goals as goal

pub returns : goal.returns
returns g c = notes_nothing _
