use Rattle.std.proofs.Common.{[], ◌∷◌, ap, arith, length, length-append}
use Rattle.vb_value.specs.declared.value.Value.{Empty}
use Rattle.vb_heap.proofs.Making.{added_more}
use Rattle.vb_heap.proofs.cell_map.add_cells.Goals as goal

pub loop-preserved : goal.loop-preserved
loop-preserved c =
    let was = c.loop.invariant in
    record {
      cells =
          rw (c.add_cell.ensures.cells, was.cells, was.made)
          (added_more c.args.cells.now.entries c.args.cells.now.next c.loop.counter);
      made = omega (arith, c.add_cell.ensures.made, was.made);
      free = omega (arith, c.add_cell.ensures.free, was.free);
      many =
          omega (
            arith,
            ap length c.add_cell.ensures.cells,
            length-append c.loop.cells.entries ((c.loop.cells.next, Empty) ∷ []),
            was.many,
          );
      most = rw c.add_cell.ensures.most was.most;
    }
