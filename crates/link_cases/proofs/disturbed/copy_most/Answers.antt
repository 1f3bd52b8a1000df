use Rattle.link_cases.proofs.Reading.{kept_rest}
use Rattle.link_cases.proofs.disturbed.copy_most.Goals as goal

pub returns-clause-kept : goal.returns-clause-kept
returns-clause-kept c = kept_rest _ _ _ _ c.copy_start.ensures.count c.copy_start.ensures.into
