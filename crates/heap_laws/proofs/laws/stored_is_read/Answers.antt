use Rattle.heap_laws.proofs.Stored.{stored}
use Rattle.heap_laws.proofs.laws.stored_is_read.Goals as goal

pub returns : goal.returns
returns c = stored
