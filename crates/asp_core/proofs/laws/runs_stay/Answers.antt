use Rattle.asp_core.proofs.Staying as staying
use Rattle.asp_core.proofs.laws.runs_stay.Goals as goal

pub returns : goal.returns
returns c = staying.stays_lane
