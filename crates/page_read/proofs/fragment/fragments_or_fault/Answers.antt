use Rattle.page_read.proofs.Pieces.{list_or_fault}
use Rattle.page_read.proofs.fragment.fragments_or_fault.Goals as goal

pub returns : goal.returns
returns c = list_or_fault
