-- How the code keeps the data of a page.
use Rattle.std.specs.Prelude.{◌≡◌, ◌≤◌, length}
use Rattle.vb_heap.specs.declared.heap.Heap.TheInside.{Inside}
use Rattle.vb_heap.specs.Counted.{AreRight, parts_of}
use Rattle.vb_heap.specs.Limits.{most_weight, most_held}
use Rattle.vb_heap.specs.PageWeight.{weight_of_page}
use Rattle.vb_heap.specs.Pooled.{IsPoolOf}
use Rattle.vb_heap.specs.Store.{Store}
use Rattle.vb_heap.specs.Tally.{IsTallyOf}

-- the data
abbrev pub store_of : Inside → Store
store_of heap = record {
  cells = heap.cells.entries;
  objects = heap.objects.entries;
  held = heap.held;
  cells_made = heap.cells_made;
  objects_made = heap.objects_made;
}

-- the numbers to come are new, the weight and the counts of references are told, and the limits are kept
pub record IsKept (heap : Inside) : Type 0 where
  pub new_cells : IsPoolOf heap.cells_made heap.cells
  pub new_objects : IsPoolOf heap.objects_made heap.objects
  pub new_counts : IsTallyOf heap.objects_made heap.counts
  pub ends : heap.counts.ends ≡ parts_of (λ object. object.ending) heap.objects.entries
  pub counted : AreRight heap.counts.entries heap.top (store_of heap)
  pub weighed : heap.weight ≡ weight_of_page (store_of heap)
  pub light : heap.weight ≤ most_weight
  pub few : length heap.held ≤ most_held
