use Rattle.std.proofs.Common.{refl, sym, ◌∙◌, arith}
use Rattle.vb_heap.proofs.Counting.{less_none}
use Rattle.vb_heap.proofs.CountSteps.{fields_all, fields_next}
use Rattle.vb_heap.proofs.Numbered.{gone_more}
use Rattle.vb_heap.proofs.cell_map.remove_cells.Goals as goal

pub loop-cell-init : goal.loop-cell-init
loop-cell-init c = record {
  counts = sym (less_none c.args.counts.now.entries);
  ends = refl;
  counts_pooled = (refl, refl);
  cells = refl;
  weight = omega arith;
  pooled = (refl, refl);
}

pub loop-cell-preserved : goal.loop-cell-preserved
loop-cell-preserved c =
    let one = c.remove_cell-weight.ensures.weight in
    let so_far = c.loop-cell.invariant.weight in
    let lowered = c.remove_cell-weight.ensures in
    let before = c.loop-cell.invariant in
    record {
      counts =
          rw (lowered.counts, before.counts, before.cells)
          (sym (fields_next c.args.gone.now c.loop-cell.cell-index _ c.args.cells.now.entries c.args.counts.now.entries
          c.loop-cell-test.true));
      ends = lowered.ends ∙ before.ends;
      counts_pooled =
          (lowered.counts_pooled.0 ∙ before.counts_pooled.0, lowered.counts_pooled.1 ∙ before.counts_pooled.1);
      cells =
          rw (c.remove_cell-weight.ensures.cells, c.loop-cell.invariant.cells)
          (sym (gone_more c.args.gone.now c.loop-cell.cell-index _ c.args.cells.now.entries c.loop-cell-test.true));
      weight = omega arith;
      pooled =
          let still = c.remove_cell-weight.ensures.pooled in
          let before = c.loop-cell.invariant.pooled in
          (still.0 ∙ before.0, still.1 ∙ before.1);
    }
