use Rattle.heap_laws.proofs.Entries.{keys_in_order}
use Rattle.heap_laws.proofs.dictionaries.keys_stay_in_order.Goals as goal

pub returns : goal.returns
returns c = keys_in_order
