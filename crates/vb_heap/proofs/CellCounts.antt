-- Counts of references that stay right as cells come, go and change, and as values are held.
use Rattle.std.proofs.Common.{ℕ, ◌+◌, ◌-◌, ◌≤◌, ◌≡◌, ◌∙◌, List, [], ◌++◌, drop, length, take}
use Rattle.std.proofs.Common.{Option, Some, None, Result, Ok, Err, IfOk, refl, sym, ap}
use Rattle.std.proofs.Math.Seq.{drop-append_seam}
use Rattle.std.proofs.lemmas.List.{take_rest}
use Rattle.std.specs.Prelude.{count_by}
use Rattle.std.specs.Option.{option_map_or}
use Rattle.vb_value.specs.declared.fault.VbError.{VbError}
use Rattle.vb_value.specs.declared.value.Value.{Value, Str}
use Rattle.vb_value.specs.declared.value.Value.TheFolds.{fold-roll-Value}
use Rattle.vb_value.specs.declared.value.Value.TheOpen.{Value-F}
use Rattle.vb_value.specs.declared.value.Value.TheViews.{rolls-Str}
use Rattle.vb_heap.specs.declared.place.CellNo.{CellNo}
use Rattle.vb_heap.specs.declared.place.Place.{Place}
use Rattle.vb_heap.specs.Cells.{read_of, with_new_cell, with_stored, without_cell}
use Rattle.vb_heap.specs.Counted.{AreRight, HaveRoom, ReferencesMove, counts_less, counts_more, reaching}
use Rattle.vb_heap.specs.Held.{let_go_to, with_held}
use Rattle.vb_heap.specs.Limits.{most_held, most_weight}
use Rattle.vb_heap.specs.PageWeight.{weight_of_page}
use Rattle.vb_heap.specs.References.{all_references, array_references, references, value_references}
use Rattle.vb_heap.specs.Saturated.{weight_told}
use Rattle.vb_heap.specs.Store.{Store, numbered}
use Rattle.vb_heap.proofs.CountsAfter.{dropped_cell_counts, held_counts, let_go_counts, new_cell_counts, stored_counts}
use Rattle.vb_heap.proofs.ItemMoves.{none_goes}
use Rattle.vb_heap.proofs.Moves.{dropped_cell_moves, held_moves, let_go_moves, new_cell_moves, stored_moves}
use Rattle.vb_heap.proofs.Tallying.{came_within, moved_within, still_right, went_right}
use Rattle.vb_heap.proofs.Told.{none_moved}

-- a cell that is dropped, if it is there
dropped_moves : (cell : CellNo) (store : Store) (found : Option Value) → numbered cell.0 store.cells ≡ found
    → ReferencesMove (option_map_or references found []) [] store (without_cell cell store)
dropped_moves cell store (Some value) is test = dropped_cell_moves cell value store is test
dropped_moves cell store None is test =
    ap (λ cells. count_by test (all_references (record store { cells = cells })) + 0) (none_goes cell.0 store.cells is)

-- what was added at the end
pub added_last : (held found all : List ℕ) (mark : ℕ) → all ≡ held ++ found → mark ≡ length held
    → take (length all - mark) (drop mark all) ≡ found
added_last held found all mark grown before =
    rw (grown, before) (take_rest (held ++ found) (length held) ∙ drop-append_seam held found)

-- a text refers to nothing
pub text_refers : (text : List ℕ) → references (Str text) ≡ []
text_refers text =
    ap references (sym (rolls-Str text))
    ∙ fold-roll-Value (List ℕ) (List ℕ) value_references array_references (Value-F.Str text)

-- a text in the place of another one
text_moves : (place : Place) (old new : List ℕ) (store : Store) → read_of place store ≡ Ok (Str old)
    → ReferencesMove [] [] store (with_stored place (Str new) store)
text_moves place old new store is test =
    let move = stored_moves place (Str new) (Str old) store is test in
    rw (text_refers old, text_refers new) at move

module _ (store : Store) (counts after : List (ℕ × ℕ)) (top : ℕ) (right : AreRight counts top store) where
  pub new_cell_right : (greater : ℕ) (value : Value)
      → (HaveRoom (references value) counts → after ≡ counts_more (references value) counts)
      → top ≤ greater → reaching greater (references value) ≡ 0
      → weight_of_page (with_new_cell value store) ≤ most_weight → length store.held ≤ most_held
      → AreRight after greater (with_new_cell value store)
  new_cell_right greater value counted within below light few =
      came_within store (with_new_cell value store) counts after top right greater (references value)
      (new_cell_moves value store) (new_cell_counts value store) counted within below light few

  pub dropped_cell_right : (cell : CellNo)
      → after ≡ counts_less (option_map_or references (numbered cell.0 store.cells) []) counts
      → AreRight after top (without_cell cell store)
  dropped_cell_right cell counted =
      went_right store (without_cell cell store) counts after top right
      (option_map_or references (numbered cell.0 store.cells) [])
      (dropped_moves cell store (numbered cell.0 store.cells) refl)
      (dropped_cell_counts cell store (numbered cell.0 store.cells) refl) counted

  pub held_right : (greater : ℕ) (value : Value)
      → (HaveRoom (references value) counts → after ≡ counts_more (references value) counts)
      → top ≤ greater → reaching greater (references value) ≡ 0
      → weight_of_page store ≤ most_weight → length (with_held value store).held ≤ most_held
      → AreRight after greater (with_held value store)
  held_right greater value counted within below light few =
      came_within store (with_held value store) counts after top right greater (references value)
      (held_moves value store) (held_counts value store) counted within below light few

  pub let_go_right : (mark : ℕ) → after ≡ counts_less (drop mark store.held) counts
      → AreRight after top (let_go_to mark store)
  let_go_right mark counted =
      went_right store (let_go_to mark store) counts after top right (drop mark store.held) (let_go_moves mark store)
      (let_go_counts mark store) counted

  -- the value at a place, and another one for it
  pub stored_right : (middle : List (ℕ × ℕ)) (greater weight : ℕ) (place : Place) (value : Value)
      → Ok weight ≡ weight_told (read_of place store)
      → IfOk (read_of place store) (λ old. middle ≡ counts_less (references old) counts)
      → (HaveRoom (references value) middle → after ≡ counts_more (references value) middle)
      → top ≤ greater → reaching greater (references value) ≡ 0
      → weight_of_page (with_stored place value store) ≤ most_weight → length store.held ≤ most_held
      → AreRight after greater (with_stored place value store)
  stored_right middle greater weight place value told less counted within below light few =
      by (read_of place store) refl told less
    where
      by : (found : Result Value VbError) → read_of place store ≡ found → Ok weight ≡ weight_told found
          → IfOk found (λ old. middle ≡ counts_less (references old) counts)
          → AreRight after greater (with_stored place value store)
      by (Ok old) is told less =
          moved_within store (with_stored place value store) counts after top right middle greater (references old)
          (references value) (stored_moves place value old store is) (stored_counts place value old store is) less
          counted within below light few
      by (Err error) is told less = absurd (cc)

  pub text_right : (place : Place) (old new : List ℕ) → read_of place store ≡ Ok (Str old) → after ≡ counts
      → AreRight after top (with_stored place (Str new) store)
  text_right place old new is same =
      still_right store (with_stored place (Str new) store) counts after top right (text_moves place old new store is)
      (none_moved store (with_stored place (Str new) store) store.objects (text_moves place old new store is)) same
