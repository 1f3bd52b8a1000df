use Rattle.std.proofs.Common.{◌≤◌, ◌++◌, ◌∙◌, ap, arith, length, sym}
use Rattle.std.proofs.lemmas.List.{length-append}
use Rattle.vb_heap.specs.Held.{with_held}
use Rattle.vb_heap.specs.Inside.{store_of}
use Rattle.vb_heap.specs.Limits.{most_held}
use Rattle.vb_heap.specs.References.{references}
use Rattle.vb_heap.proofs.CellCounts.{added_last, held_right}
use Rattle.vb_heap.proofs.Fitting.{answer_fits, they_fit}
use Rattle.vb_heap.proofs.heap.Heap.hold.Goals as goal

pub invariant_of-self-2 : goal.invariant_of-self-2
invariant_of-self-2 c =
    let raised = c.raise_all-self-inside.ensures in
    let found = references c.args.value.now in
    let grown = rw c.in_ok-found.ensures at c.in_ok-append.ensures in
    let came = added_last c.self.inside.held found c.as_slice.result.now c.len-mark.result
    (c.as_slice.ensures ∙ grown) c.len-mark.ensures in
    let few : length (c.self.inside.held ++ found) ≤ most_held =
    omega (
      arith,
      length-append c.self.inside.held found,
      ap length c.in_ok-found.ensures,
      c.if-len.false,
      c.len.ensures,
      c.len-2.ensures,
      c.self.invariant.few,
    ) in
    record {
      new_cells = c.self.invariant.new_cells;
      new_objects = c.self.invariant.new_objects;
      new_counts =
          record {
            next = raised.pooled.0 ∙ c.self.invariant.new_counts.next;
            most = raised.pooled.1 ∙ c.self.invariant.new_counts.most;
          };
      ends = raised.ends ∙ c.self.invariant.ends;
      counted =
          rw grown
          (held_right (store_of c.self.inside) _ _ _ c.self.invariant.counted _ c.args.value.now
          (rw came at raised.counts) raised.top (rw came at raised.below)
          (omega (arith, c.self.invariant.weighed, c.self.invariant.light)) few);
      weighed = c.self.invariant.weighed;
      light = c.self.invariant.light;
      few = rw grown few;
    }

pub returns-clause-answer : goal.returns-clause-answer
returns-clause-answer c =
    rw (sym c.self.view_is)
    (answer_fits (with_held c.args.value.now (store_of c.self.inside)) tt
    (they_fit (with_held c.args.value.now (store_of c.self.inside)) (record {
      light = omega (arith, c.self.invariant.weighed, c.self.invariant.light);
      objects = omega arith;
      cells = omega arith;
      few =
          omega (
            arith,
            length-append c.self.inside.held (references c.args.value.now),
            ap length c.in_ok-found.ensures,
            c.if-len.false,
            c.len.ensures,
            c.len-2.ensures,
            c.self.invariant.few,
          );
    })))
