use Rattle.act_laws.proofs.Replies.{stay}
use Rattle.act_laws.proofs.laws.calls_stay.Goals as goal

pub returns : goal.returns
returns g c = stay _
