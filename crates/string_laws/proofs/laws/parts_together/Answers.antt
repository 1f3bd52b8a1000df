use Rattle.string_laws.proofs.TextLaws.{parts_together}
use Rattle.string_laws.proofs.laws.parts_together.Goals as goal

pub returns : goal.returns
returns c = parts_together
