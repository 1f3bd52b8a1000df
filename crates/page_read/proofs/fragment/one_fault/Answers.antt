use Rattle.page_read.proofs.Pieces.{one_fault}
use Rattle.page_read.proofs.fragment.one_fault.Goals as goal

pub returns : goal.returns
returns c = one_fault
