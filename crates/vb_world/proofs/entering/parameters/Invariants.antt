use Rattle.std.proofs.Common.{◌≡◌, length}
use Rattle.std.specs.Vec.Iter.{into_iter_items}
use Rattle.vb_meaning.specs.Calling.{parameters}
use Rattle.vb_meaning.specs.Shown.{shown}
use Rattle.vb_world.proofs.entering.parameters.Given as goal

abbrev pub invariant-loop-by_value : goal.invariant-loop-by_value
invariant-loop-by_value l =
    parameters l.fn.by_value l.fn.arguments (shown l.fn.world) ≡ parameters l.by_value (into_iter_items l.rest)
    (shown l.world)

abbrev pub decreases-loop-by_value : goal.decreases-loop-by_value
decreases-loop-by_value l = length l.by_value
