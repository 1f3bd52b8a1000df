use Rattle.host_laws.proofs.OneGetOutput as output
use Rattle.host_laws.proofs.laws.one_get_output.Goals as goal

pub returns : goal.returns
returns c = output.one_get_output c.one_site.ensures c.one_request_outcome.ensures
