use Rattle.asp_text.proofs.PathLaws.{normal}
use Rattle.asp_text.proofs.laws.normal_paths_are_normal.Goals as goal

pub returns : goal.returns
returns c = normal
