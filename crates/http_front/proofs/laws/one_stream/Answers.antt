use Rattle.http_front.proofs.Fronts.{stream_unique}
use Rattle.http_front.proofs.laws.one_stream.Goals as goal

pub returns : goal.returns
returns c = stream_unique
