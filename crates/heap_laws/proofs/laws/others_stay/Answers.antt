use Rattle.heap_laws.proofs.Stored.{others}
use Rattle.heap_laws.proofs.laws.others_stay.Goals as goal

pub returns : goal.returns
returns c = others
