use Rattle.page_build.proofs.OneAnswer.{program_or_fault_lem}
use Rattle.page_build.proofs.laws.program_or_fault.Goals as goal

pub returns : goal.returns
returns c = program_or_fault_lem c.one_token_list.ensures c.tokens_or_fault.ensures c.one_unit.ensures c.unit_faultless.ensures
    c.program_faultless.ensures
