use Rattle.std.proofs.Common.{◌==◌}
use Rattle.vb_heap.proofs.Sums.{add_up}
use Rattle.heap_laws.proofs.laws.references_add_up.Goals as goal

pub returns : goal.returns
returns c = λ object store. add_up (λ other. other == object) store
