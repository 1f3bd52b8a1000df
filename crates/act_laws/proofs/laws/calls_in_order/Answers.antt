use Rattle.act_laws.proofs.Replies.{in_order}
use Rattle.act_laws.proofs.laws.calls_in_order.Goals as goal

pub returns : goal.returns
returns g c = in_order _
