use Rattle.heap_laws.proofs.Entries.{added_is_last, others_stay_absent, others_stay_added}
use Rattle.heap_laws.proofs.dictionaries.added_is_found.Goals as goal

pub returns : goal.returns
returns c = record { added = added_is_last; found = others_stay_added; absent = others_stay_absent }
