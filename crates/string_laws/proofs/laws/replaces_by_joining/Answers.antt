use Rattle.string_laws.proofs.SplitLaws.{replaces_by_joining}
use Rattle.string_laws.proofs.laws.replaces_by_joining.Goals as goal

pub returns : goal.returns
returns c = replaces_by_joining
