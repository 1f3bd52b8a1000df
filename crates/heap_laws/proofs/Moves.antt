-- How references to one object come and go.
use Rattle.std.proofs.Common.{ℕ, ◌+◌, ◌≡◌, ◌∙◌, ◌==◌, List, [], ◌∷◌, Option, Some, None, refl, ap, arith}
use Rattle.std.specs.Option.{option_map_or}
use Rattle.vb_value.specs.declared.value.Value.{Value}
use Rattle.vb_heap.specs.declared.place.CellNo.{CellNo}
use Rattle.vb_heap.specs.Counted.{field_references}
use Rattle.vb_heap.specs.Counts.{count_of}
use Rattle.vb_heap.specs.References.{references, references_to}
use Rattle.vb_heap.specs.Store.{numbered, without}
use Rattle.vb_heap.proofs.ItemMoves.{added_item_moves, dropped_item_moves, dropped_items_move, ended_is}
use Rattle.vb_heap.proofs.ItemMoves.{ended_object_moves, ended_table_moves, of_items, set_item_moves}
use Rattle.vb_heap.proofs.Moves.{dropped_cell_moves, held_moves, let_go_moves, new_cell_moves, new_object_moves}
use Rattle.vb_heap.proofs.Moves.{new_table_moves, stored_moves}
use Rattle.vb_heap.proofs.ValueReferences.{count_both}
use Rattle.heap_laws.specs.Moves.{AddedItemRefers, DroppedCellRefers, DroppedItemRefers, DroppedItemsRefer}
use Rattle.heap_laws.specs.Moves.{EndedObjectRefers, EndedTableRefers, HeldRefers, LetGoRefers, NewCellRefers}
use Rattle.heap_laws.specs.Moves.{NewObjectRefers, NewTableRefers, SetItemRefers, StoredRefers, times_in}
use Rattle.heap_laws.specs.Moves.{times_in_cells, times_in_items}

pub new_cell_refers : NewCellRefers
new_cell_refers object value store =
    let move = new_cell_moves value store (λ other. other == object) in omega (arith, move)

pub dropped_cell_refers : DroppedCellRefers
dropped_cell_refers object cell value store is =
    let move = dropped_cell_moves cell value store is (λ other. other == object) in omega (arith, move)

pub stored_refers : StoredRefers
stored_refers object place new old store is = stored_moves place new old store is (λ other. other == object)

pub held_refers : HeldRefers
held_refers object value store = let move = held_moves value store (λ other. other == object) in omega (arith, move)

pub let_go_refers : LetGoRefers
let_go_refers object mark store = let move = let_go_moves mark store (λ other. other == object) in omega (arith, move)

pub new_object_refers : NewObjectRefers
new_object_refers object class fields store =
    let move = new_object_moves class fields store (λ other. other == object) in omega (arith, move)

pub new_table_refers : NewTableRefers
new_table_refers object store = let move = new_table_moves store (λ other. other == object) in omega (arith, move)

-- ---- entries

pub added_item_refers : AddedItemRefers
added_item_refers object table key item store found said =
    let move = added_item_moves table key item store found said (λ other. other == object) in omega (arith, move)

pub set_item_refers : SetItemRefers
set_item_refers object table at item store found pair said there =
    set_item_moves table at item store found pair said there (λ other. other == object)

pub dropped_item_refers : DroppedItemRefers
dropped_item_refers object table at store found pair said there =
    let move = dropped_item_moves table at store found pair said there (λ other. other == object) in
    omega (arith, move)

pub dropped_items_refer : DroppedItemsRefer
dropped_items_refer object table store found said =
    let move = dropped_items_move table store found said (λ other. other == object) in
    let items = of_items (λ other. other == object) found in
    omega (arith, move, items)

-- ---- an object that ends

pub ended_table_refers : EndedTableRefers
ended_table_refers object ended thing found store is ending entries =
    let move = ended_table_moves ended thing found store is entries (λ other. other == object) in
    let items = of_items (λ other. other == object) found in
    ap (λ left. references_to object left + times_in_items object found) (ended_is ended thing store ending)
    ∙ omega (arith, move, items)

-- the references of the values of cells, each of which goes when it was counted
in_fields : (object : ℕ) (fields : List CellNo) (cells : List (ℕ × Value))
    → count_of object (field_references fields cells) ≡ times_in_cells object fields cells
in_fields object [] cells = refl
in_fields object (first ∷ others) cells =
    let both = count_both object (option_map_or references (numbered first.0 cells) [])
    (field_references others (without first.0 cells)) in
    let rest = in_fields object others (without first.0 cells) in
    let one = found (numbered first.0 cells) in
    omega (arith, both, rest, one)
  where
    found : (value : Option Value)
        → count_of object (option_map_or references value []) ≡ option_map_or (times_in object) value 0
    found (Some value) = refl
    found None = refl

pub ended_object_refers : EndedObjectRefers
ended_object_refers object ended class thing fields store is ending inside =
    let move = ended_object_moves ended class thing fields store is inside (λ other. other == object) in
    let cells = in_fields object fields store.cells in
    ap (λ left. references_to object left + times_in_cells object fields store.cells)
    (ended_is ended thing store ending)
    ∙ omega (arith, move, cells)
