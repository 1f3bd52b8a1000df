use Rattle.std.proofs.Common.{◌≡◌, length}
use Rattle.vb_meaning.specs.Places.{cells_emptied}
use Rattle.vb_meaning.specs.State.{with_store}
use Rattle.vb_meaning.specs.Shown.{shown}
use Rattle.vb_world.proofs.places.empty_cells.Given as goal

abbrev pub invariant-loop-cells : goal.invariant-loop-cells
invariant-loop-cells l =
    with_store (cells_emptied l.fn.cells) (shown l.fn.world) ≡ with_store (cells_emptied l.cells) (shown l.world)

abbrev pub decreases-loop-cells : goal.decreases-loop-cells
decreases-loop-cells l = length l.cells
