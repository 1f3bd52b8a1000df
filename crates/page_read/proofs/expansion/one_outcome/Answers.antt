use Rattle.page_read.proofs.OneOutcome.{one_of_page}
use Rattle.page_read.proofs.expansion.one_outcome.Goals as goal

pub returns : goal.returns
returns c = one_of_page
