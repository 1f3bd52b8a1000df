use Rattle.std.proofs.Common.{◌≡◌, [], length}
use Rattle.vb_meaning.specs.Declaring.{declared_cells}
use Rattle.vb_meaning.specs.Shown.{shown}
use Rattle.vb_world.proofs.declaring.declared_cells.Given as goal

abbrev pub invariant-loop-variables : goal.invariant-loop-variables
invariant-loop-variables l =
    declared_cells [] l.fault l.fn.variables (shown l.fn.world) ≡ declared_cells l.cells l.fault l.variables
    (shown l.world)

abbrev pub decreases-loop-variables : goal.decreases-loop-variables
decreases-loop-variables l = length l.variables
