use Rattle.string_laws.proofs.TrimLaws.{trims}
use Rattle.string_laws.proofs.laws.trims.Goals as goal

pub returns : goal.returns
returns c = trims
