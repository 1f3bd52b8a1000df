use Rattle.site_load.proofs.OneFault.{one_folder_fault_lem}
use Rattle.site_load.proofs.laws.one_folder_fault.Goals as goal

pub returns : goal.returns
returns c = one_folder_fault_lem c.one_outcome.ensures c.page_or_fault.ensures c.one_page_fault.ensures
