use Rattle.page_build.proofs.OneAnswer.{one_program_lem}
use Rattle.page_build.proofs.laws.one_program.Goals as goal

pub returns : goal.returns
returns c = one_program_lem c.one_token_list.ensures c.one_unit.ensures c.one_program.ensures
