use Rattle.core_laws.proofs.Plain as plain
use Rattle.core_laws.proofs.laws.strict_is_plain.Goals as goal

pub returns : goal.returns
returns c = plain.strict_is_plain
