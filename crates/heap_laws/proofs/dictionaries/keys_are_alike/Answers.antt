use Rattle.heap_laws.proofs.Entries.{same_is_equivalence}
use Rattle.heap_laws.proofs.Keys.{case_is_finer}
use Rattle.heap_laws.proofs.dictionaries.keys_are_alike.Goals as goal

pub returns : goal.returns
returns c = record { equivalence = same_is_equivalence; finer = case_is_finer }
