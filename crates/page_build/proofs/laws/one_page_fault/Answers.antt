use Rattle.page_build.proofs.OnePage.{one_page_fault_lem}
use Rattle.page_build.proofs.laws.one_page_fault.Goals as goal

pub returns : goal.returns
returns c = one_page_fault_lem c.one_token_list.ensures c.one_fault.ensures c.tokens_or_fault.ensures c.one_unit.ensures
    c.one_fault-2.ensures c.unit_faultless.ensures
