use Rattle.string_laws.proofs.TextLaws.{reverses}
use Rattle.string_laws.proofs.laws.reverses.Goals as goal

pub returns : goal.returns
returns c = reverses
