use Rattle.host_laws.proofs.OneSite as site
use Rattle.host_laws.proofs.laws.one_site.Goals as goal

pub returns : goal.returns
returns c = site.one_site c.one_outcome.ensures c.one_token_list.ensures c.one_unit.ensures c.one_program.ensures
