use Rattle.heap_laws.proofs.NewCells.{new_cells}
use Rattle.heap_laws.proofs.laws.cells_are_new.Goals as goal

pub returns : goal.returns
returns c = new_cells
