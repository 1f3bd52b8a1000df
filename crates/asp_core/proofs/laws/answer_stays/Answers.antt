use Rattle.asp_core.proofs.Lasting.{lasts}
use Rattle.asp_core.proofs.laws.answer_stays.Goals as goal

pub returns : goal.returns
returns c = lasts
