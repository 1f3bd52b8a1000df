use Rattle.http_front.proofs.Fronts.{front_stays}
use Rattle.http_front.proofs.laws.front_stays.Goals as goal

pub returns : goal.returns
returns c = front_stays
