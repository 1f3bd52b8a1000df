use Rattle.heap_laws.proofs.Oldest.{ended_is_loose, none_is_loose, older_are_held}
use Rattle.heap_laws.proofs.laws.loose_objects_end.Goals as goal

pub returns : goal.returns
returns c = record { ended = ended_is_loose; older = older_are_held; none = none_is_loose }
