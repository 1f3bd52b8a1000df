use Rattle.std.proofs.Common.{◌≡◌, length}
use Rattle.vb_meaning.specs.Declaring.{constants_made, constants_from}
use Rattle.vb_meaning.specs.Shown.{shown}
use Rattle.vb_world.proofs.declaring.constants_made.Given as goal

abbrev pub invariant-loop-constants : goal.invariant-loop-constants
invariant-loop-constants l =
    constants_made l.fn.constants (shown l.world) ≡ constants_from l.values l.constants (shown l.world)

abbrev pub decreases-loop-constants : goal.decreases-loop-constants
decreases-loop-constants l = length l.constants
