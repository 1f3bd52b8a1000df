use Rattle.string_laws.proofs.OrderLaws.{compares_letters}
use Rattle.string_laws.proofs.laws.compares_letters.Goals as goal

pub returns : goal.returns
returns c = compares_letters
