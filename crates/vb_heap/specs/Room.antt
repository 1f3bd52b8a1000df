-- Room for an object more.
use Rattle.std.specs.Prelude.{ℕ, ◌+◌, ◌*◌, ◌≤◌}
use Rattle.vb_heap.specs.Limits.{most_weight, most_objects, most_cells}
use Rattle.vb_heap.specs.PageWeight.{weight_of_page}
use Rattle.vb_heap.specs.Store.{Store}

-- an object with so many fields may be made
pub record HasRoom (fields : ℕ) (store : Store) : Type 0 where
  pub light : weight_of_page store + (32 + 32 * fields) ≤ most_weight
  pub objects : store.objects_made + 1 ≤ most_objects
  pub cells : store.cells_made + fields ≤ most_cells
