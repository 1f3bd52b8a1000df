use Rattle.std.proofs.Common.{◌≡◌, length}
use Rattle.vb_meaning.specs.Calling.{variables}
use Rattle.vb_meaning.specs.Shown.{shown}
use Rattle.vb_world.proofs.entering.variables.Given as goal

abbrev pub invariant-loop-variables : goal.invariant-loop-variables
invariant-loop-variables l =
    variables l.fault l.fn.number l.fn.variables (shown l.fn.world) ≡ variables l.fault l.number l.variables
    (shown l.world)

abbrev pub decreases-loop-variables : goal.decreases-loop-variables
decreases-loop-variables l = length l.variables
