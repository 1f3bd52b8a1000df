use Rattle.site_load.proofs.OneSite.{site_or_fault_lem}
use Rattle.site_load.proofs.laws.site_or_fault.Goals as goal

pub returns : goal.returns
returns c = site_or_fault_lem c.one_outcome.ensures c.page_or_fault.ensures
