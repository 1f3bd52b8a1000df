use Rattle.string_laws.proofs.SplitLaws.{splits}
use Rattle.string_laws.proofs.laws.splits.Goals as goal

pub returns : goal.returns
returns c = splits
