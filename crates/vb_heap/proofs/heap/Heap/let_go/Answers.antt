use Rattle.std.proofs.Common.{◌∙◌, ap, arith, length}
use Rattle.std.proofs.lemmas.List.{length-take, take_rest}
use Rattle.vb_heap.specs.Counted.{counts_less}
use Rattle.vb_heap.specs.Inside.{store_of}
use Rattle.vb_heap.proofs.CellCounts.{let_go_right}
use Rattle.vb_heap.proofs.heap.Heap.let_go.Goals as goal

pub invariant_of-self : goal.invariant_of-self
invariant_of-self c =
    let lowered = c.lower_all.ensures in
    let gone = rw c.as_slice.ensures at lowered.counts in
    record {
      new_cells = c.self.invariant.new_cells;
      new_objects = c.self.invariant.new_objects;
      new_counts =
          record {
            next = lowered.pooled.0 ∙ c.self.invariant.new_counts.next;
            most = lowered.pooled.1 ∙ c.self.invariant.new_counts.most;
          };
      ends = lowered.ends ∙ c.self.invariant.ends;
      counted =
          rw c.truncate.ensures
          (let_go_right (store_of c.self.inside) _ _ _ c.self.invariant.counted c.args.mark
          (gone ∙ ap (λ left. counts_less left c.self.inside.counts.entries)
          (take_rest c.self.inside.held c.args.mark)));
      weighed = c.self.invariant.weighed;
      light = c.self.invariant.light;
      few =
          omega (
            arith,
            ap length c.truncate.ensures,
            length-take c.args.mark c.self.inside.held,
            c.self.invariant.few,
          );
    }
