use Rattle.value_laws.proofs.Nearest.{rounds_to_nearest}
use Rattle.value_laws.proofs.laws.rounding_is_nearest.Goals as goal

pub returns : goal.returns
returns c = rounds_to_nearest
