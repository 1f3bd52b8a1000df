use Rattle.std.proofs.Common.{sym, ◌∙◌, arith}
use Rattle.vb_heap.specs.Inside.{store_of}
use Rattle.vb_heap.proofs.CellCounts.{stored_right}
use Rattle.vb_heap.proofs.Storing.{refuses, accepts, weighs}
use Rattle.vb_heap.proofs.heap.Heap.store.Goals as goal

pub returns-then-weight-gt-MOST_WEIGHT-clause-answer : goal.returns-then-weight-gt-MOST_WEIGHT-clause-answer
returns-then-weight-gt-MOST_WEIGHT-clause-answer c _ =
    rw (sym c.self.view_is)
    (refuses c.self.inside c.self.invariant c.args.place.now c.args.value c.in_ok-old.old
    c.saturating_add-weight.result (rw c.as_slice-steps.ensures at c.in_ok-old.ensures.answer)
    (omega (arith, c.in_ok-old.ensures.within, c.self.invariant.weighed))
    (rw c.weight.ensures at c.saturating_add-weight.ensures)
    (rw c.as_slice-steps.ensures at (sym c.is_too_deep.ensures ∙ c.if-is_too_deep.false))
    c.if-weight-gt-MOST_WEIGHT.true)

pub invariant_of-self : goal.invariant_of-self
invariant_of-self c =
    let lowered = c.lower_at.ensures in
    let raised = c.raise_in-self-inside.ensures in
    let told = rw c.as_slice-steps.ensures at c.in_ok-old.ensures.answer in
    let weighed = weighs c.self.inside c.self.invariant c.args.place.now c.args.value c.in_ok-old.old
    c.saturating_add-weight.result told (omega (arith, c.in_ok-old.ensures.within, c.self.invariant.weighed))
    (rw c.weight.ensures at c.saturating_add-weight.ensures)
    (rw c.as_slice-steps.ensures at (sym c.is_too_deep.ensures ∙ c.if-is_too_deep.false))
    c.if-weight-gt-MOST_WEIGHT.false in
    record {
      new_cells =
          record {
            next = c.put_in_cell.ensures.pooled.0 ∙ c.self.invariant.new_cells.next;
            most = c.put_in_cell.ensures.pooled.1 ∙ c.self.invariant.new_cells.most;
          };
      new_objects = c.self.invariant.new_objects;
      new_counts =
          record {
            next = raised.pooled.0 ∙ (lowered.pooled.0 ∙ c.self.invariant.new_counts.next);
            most = raised.pooled.1 ∙ (lowered.pooled.1 ∙ c.self.invariant.new_counts.most);
          };
      ends = raised.ends ∙ (lowered.ends ∙ c.self.invariant.ends);
      counted =
          rw (c.put_in_cell.ensures.cells, c.as_slice-steps.ensures)
          (stored_right (store_of c.self.inside) _ _ _ c.self.invariant.counted _ _ c.in_ok-old.old c.args.place.now
          c.args.value told (rw c.as_slice-steps.ensures at lowered.counts) raised.counts raised.top raised.below
          (omega (arith, weighed, c.if-weight-gt-MOST_WEIGHT.false)) c.self.invariant.few);
      weighed = rw (c.put_in_cell.ensures.cells, c.as_slice-steps.ensures) weighed;
      light = c.if-weight-gt-MOST_WEIGHT.false;
      few = c.self.invariant.few;
    }

pub returns-clause-answer : goal.returns-clause-answer
returns-clause-answer c =
    rw (sym c.self.view_is)
    (accepts c.self.inside c.self.invariant c.args.place.now c.args.value c.in_ok-old.old
    c.saturating_add-weight.result (rw c.as_slice-steps.ensures at c.in_ok-old.ensures.answer)
    (omega (arith, c.in_ok-old.ensures.within, c.self.invariant.weighed))
    (rw c.weight.ensures at c.saturating_add-weight.ensures)
    (rw c.as_slice-steps.ensures at (sym c.is_too_deep.ensures ∙ c.if-is_too_deep.false))
    c.if-weight-gt-MOST_WEIGHT.false
    (omega arith) (omega arith))
