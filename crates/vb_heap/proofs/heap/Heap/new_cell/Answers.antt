use Rattle.std.proofs.Common.{ap, arith, length, ◌∙◌}
use Rattle.vb_heap.specs.Inside.{store_of}
use Rattle.vb_heap.proofs.CellCounts.{new_cell_right}
use Rattle.vb_heap.proofs.Keeping.{weight_more, few_cells}
use Rattle.vb_heap.proofs.ValueWeights.{least_weight}
use Rattle.vb_heap.proofs.heap.Heap.new_cell.Goals as goal

pub reserve_cells-requires : goal.reserve_cells-requires
reserve_cells-requires c =
    omega (
      arith,
      few_cells c.self.inside.cells.entries,
      least_weight c.args.value,
      c.weight.ensures,
      c.saturating_add-weight.ensures,
      c.if-weight-gt-MOST_WEIGHT.false,
      c.self.invariant.weighed,
      c.self.invariant.new_cells.most,
    )

pub add_cell-requires-clause-few : goal.add_cell-requires-clause-few
add_cell-requires-clause-few c =
    let still = c.in_ok-reserve_cells.ensures in
    omega (
      arith,
      few_cells c.self.inside.cells.entries,
      ap length still.cells,
      still.pooled.1,
      least_weight c.args.value,
      c.weight.ensures,
      c.saturating_add-weight.ensures,
      c.if-weight-gt-MOST_WEIGHT.false,
      c.self.invariant.weighed,
      c.self.invariant.new_cells.most,
    )

pub invariant_of-self-2 : goal.invariant_of-self-2
invariant_of-self-2 c =
    let still = c.in_ok-reserve_cells.ensures in
    let raised = c.raise_in-self-inside.ensures in
    let more = weight_more c.self.inside.cells.entries c.self.inside.cells_made c.args.value in
    let cells = rw (still.cells, still.pooled.0 ∙ c.self.invariant.new_cells.next) at c.add_cell.ensures.cells in
    record {
      new_cells =
          record {
            next = omega (arith, c.add_cell.ensures.made, still.pooled.0, c.self.invariant.new_cells.next);
            most = omega (arith, c.add_cell.ensures.most, still.pooled.1, c.self.invariant.new_cells.most);
          };
      new_objects = c.self.invariant.new_objects;
      new_counts =
          record {
            next = raised.pooled.0 ∙ c.self.invariant.new_counts.next;
            most = raised.pooled.1 ∙ c.self.invariant.new_counts.most;
          };
      ends = raised.ends ∙ c.self.invariant.ends;
      counted =
          rw cells
          (new_cell_right (store_of c.self.inside) _ _ _ c.self.invariant.counted _ c.args.value raised.counts
          raised.top raised.below (omega (arith, more)) c.self.invariant.few);
      weighed = rw cells (omega (arith, more));
      light = omega arith;
      few = c.self.invariant.few;
    }
