use Rattle.string_laws.proofs.OrderLaws.{compares_turned}
use Rattle.string_laws.proofs.laws.compares_turned.Goals as goal

pub returns : goal.returns
returns c = compares_turned
