use Rattle.host_laws.proofs.OneGet as get
use Rattle.host_laws.proofs.laws.one_request_outcome.Goals as goal

pub returns : goal.returns
returns c = get.one_outcome
