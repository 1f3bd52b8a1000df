use Rattle.heap_laws.proofs.Moves.{added_item_refers, dropped_item_refers, dropped_items_refer, set_item_refers}
use Rattle.heap_laws.proofs.laws.item_references_move.Goals as goal

pub returns : goal.returns
returns c = record {
  added = added_item_refers;
  set = set_item_refers;
  dropped = dropped_item_refers;
  emptied = dropped_items_refer;
}
