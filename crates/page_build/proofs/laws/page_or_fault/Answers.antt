use Rattle.page_build.proofs.OnePage.{page_or_fault_lem}
use Rattle.page_build.proofs.laws.page_or_fault.Goals as goal

pub returns : goal.returns
returns c = page_or_fault_lem c.one_token_list.ensures c.tokens_or_fault.ensures c.one_unit.ensures
    c.unit_faultless.ensures c.program_faultless.ensures
