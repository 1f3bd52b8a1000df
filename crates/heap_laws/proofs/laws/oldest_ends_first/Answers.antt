use Rattle.heap_laws.proofs.Oldest.{last_is_oldest, none_is_live}
use Rattle.heap_laws.proofs.laws.oldest_ends_first.Goals as goal

pub returns : goal.returns
returns c = record { older = last_is_oldest; none = none_is_live }
