use Rattle.http_front.proofs.Fronts.{front_unique}
use Rattle.http_front.proofs.laws.one_front.Goals as goal

pub returns : goal.returns
returns c = front_unique
