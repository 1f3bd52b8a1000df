use Rattle.std.proofs.Common.{◌∙◌, arith}
use Rattle.vb_heap.specs.Inside.{store_of}
use Rattle.vb_heap.proofs.CellCounts.{dropped_cell_right}
use Rattle.vb_heap.proofs.heap.Heap.drop_cell.Goals as goal

pub invariant_of-self : goal.invariant_of-self
invariant_of-self c =
    let removed = c.remove_cell.ensures in
    record {
      new_cells =
          record {
            next = removed.pooled.0 ∙ c.self.invariant.new_cells.next;
            most = removed.pooled.1 ∙ c.self.invariant.new_cells.most;
          };
      new_objects = c.self.invariant.new_objects;
      new_counts =
          record {
            next = removed.counts_pooled.0 ∙ c.self.invariant.new_counts.next;
            most = removed.counts_pooled.1 ∙ c.self.invariant.new_counts.most;
          };
      ends = removed.ends ∙ c.self.invariant.ends;
      counted =
          rw removed.cells
          (dropped_cell_right (store_of c.self.inside) _ _ _ c.self.invariant.counted c.args.cell removed.counts);
      weighed = omega (arith, removed.weight, c.self.invariant.weighed);
      light = omega (arith, c.self.invariant.light);
      few = c.self.invariant.few;
    }
