-- Cells that go one after the other.
use Rattle.std.proofs.Common.{◌≡◌, List, [], ◌∷◌, ◌++◌, refl}
use Rattle.vb_heap.specs.declared.place.CellNo.{CellNo}
use Rattle.vb_heap.specs.Cells.{without_cell}
use Rattle.vb_heap.specs.Store.{Store}
use Rattle.vb_meaning.specs.Places.{cells_dropped}

-- those of two lists: first the first, and then the second
pub dropped_both : (first second : List CellNo) (store : Store)
    → cells_dropped (first ++ second) store ≡ cells_dropped second (cells_dropped first store)
dropped_both [] second store = refl
dropped_both (cell ∷ first) second store = dropped_both first second (without_cell cell store)
