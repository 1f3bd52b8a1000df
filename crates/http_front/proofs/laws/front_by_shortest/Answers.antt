use Rattle.http_front.proofs.Shortest.{front_by_shortest}
use Rattle.http_front.proofs.laws.front_by_shortest.Goals as goal

pub returns : goal.returns
returns c = front_by_shortest
