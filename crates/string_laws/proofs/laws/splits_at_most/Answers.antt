use Rattle.string_laws.proofs.SplitLaws.{splits_at_most}
use Rattle.string_laws.proofs.laws.splits_at_most.Goals as goal

pub returns : goal.returns
returns c = splits_at_most
