use Rattle.heap_laws.proofs.Entries.{counts_agree}
use Rattle.heap_laws.proofs.dictionaries.counts_agree.Goals as goal

pub returns : goal.returns
returns c = counts_agree
