use Rattle.std.proofs.Common.{◌≡◌, ◌+◌, ◌++◌, length}
use Rattle.vb_heap.specs.Objects.{cells_from, empty_cells}
use Rattle.vb_heap.proofs.cell_map.add_cells.Given as goal

abbrev pub invariant-loop : goal.invariant-loop
invariant-loop l = record {
  cells : l.cells.entries ≡ l.fn.cells.entries ++ empty_cells (cells_from l.fn.cells.next l.counter);
  made : l.cells.next ≡ l.fn.cells.next + l.counter;
  free : l.cells.free + l.counter ≡ l.fn.cells.free;
  many : length l.cells.entries ≡ length l.fn.cells.entries + l.counter;
  most : l.cells.most ≡ l.fn.cells.most;
}
