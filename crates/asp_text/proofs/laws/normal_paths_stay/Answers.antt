use Rattle.asp_text.proofs.PathLaws.{stays}
use Rattle.asp_text.proofs.laws.normal_paths_stay.Goals as goal

pub returns : goal.returns
returns c = stays
