use Rattle.http_front.proofs.Fronts.{stream-append}
use Rattle.http_front.proofs.laws.stream_of_join.Goals as goal

pub returns : goal.returns
returns c = stream-append
