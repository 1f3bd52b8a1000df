use Rattle.heap_laws.proofs.Keys.{removed_is_absent}
use Rattle.heap_laws.proofs.dictionaries.removed_is_absent.Goals as goal

pub returns : goal.returns
returns c = removed_is_absent
