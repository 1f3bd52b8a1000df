use Rattle.std.proofs.Common.{◌≡◌, length}
use Rattle.vb_meaning.specs.Accesses.{accesses, only_groups}
use Rattle.vb_world.proofs.accesses.only_groups.Given as goal

abbrev pub invariant-loop-access : goal.invariant-loop-access
invariant-loop-access l = only_groups (accesses l.fn.steps) ≡ only_groups (accesses l.steps)

abbrev pub decreases-loop-access : goal.decreases-loop-access
decreases-loop-access l = length (accesses l.steps)
