use Rattle.std.proofs.Common.{◌≡◌}
use Rattle.vb_heap.specs.Objects as spec
use Rattle.vb_heap.proofs.objects.cells_from.Given as goal

abbrev pub invariant-loop-done : goal.invariant-loop-done
invariant-loop-done l = l.cells ≡ spec.cells_from l.first l.done
