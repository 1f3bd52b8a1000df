use Rattle.string_laws.proofs.TextLaws.{ends_measured}
use Rattle.string_laws.proofs.laws.ends_measured.Goals as goal

pub returns : goal.returns
returns c = ends_measured
