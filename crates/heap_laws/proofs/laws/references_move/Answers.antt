use Rattle.heap_laws.proofs.Moves.{dropped_cell_refers, held_refers, let_go_refers, new_cell_refers, new_object_refers}
use Rattle.heap_laws.proofs.Moves.{new_table_refers, stored_refers}
use Rattle.heap_laws.proofs.laws.references_move.Goals as goal

pub returns : goal.returns
returns c = record {
  new_cell = new_cell_refers;
  dropped_cell = dropped_cell_refers;
  stored = stored_refers;
  held = held_refers;
  let_go = let_go_refers;
  new_object = new_object_refers;
  new_table = new_table_refers;
}
