use Rattle.heap_laws.proofs.Made.{array_refers, object_refers, others_refer}
use Rattle.heap_laws.proofs.laws.references_of_values.Goals as goal

pub returns : goal.returns
returns c = record { object = object_refers; array = array_refers; others = others_refer }
