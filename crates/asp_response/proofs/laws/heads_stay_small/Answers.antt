use Rattle.asp_response.proofs.Weighing.{said_small}
use Rattle.asp_response.proofs.laws.heads_stay_small.Goals as goal

pub returns : goal.returns
returns c = said_small
