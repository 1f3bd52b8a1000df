use Rattle.act_laws.proofs.Replies.{beyond}
use Rattle.act_laws.proofs.laws.replies_beyond.Goals as goal

pub returns : goal.returns
returns g c = beyond _
