use Rattle.std.proofs.Common.{◌∙◌, sym, arith}
use Rattle.vb_heap.specs.Inside.{store_of}
use Rattle.vb_heap.proofs.Ending.{ended_right}
use Rattle.vb_heap.proofs.Ends.{gone_ends}
use Rattle.vb_heap.proofs.heap.Heap.finish_object.Goals as goal

pub invariant_of-self : goal.invariant_of-self
invariant_of-self c =
    let gone = c.remove_object.ensures.weight in
    let was = c.self.invariant.weighed in
    let most = c.self.invariant.light in
    record {
      new_cells =
          record {
            next = c.remove_object.ensures.pooled.0 ∙ c.self.invariant.new_cells.next;
            most = c.remove_object.ensures.pooled.1 ∙ c.self.invariant.new_cells.most;
          };
      new_objects =
          record {
            next = c.remove_object.ensures.objects_pooled.0 ∙ c.self.invariant.new_objects.next;
            most = c.remove_object.ensures.objects_pooled.1 ∙ c.self.invariant.new_objects.most;
          };
      new_counts =
          record {
            next = c.remove_object.ensures.counts_pooled.0 ∙ c.self.invariant.new_counts.next;
            most = c.remove_object.ensures.counts_pooled.1 ∙ c.self.invariant.new_counts.most;
          };
      ends =
          rw c.remove_object.ensures.objects
          (gone_ends _ _ c.args.object.0 c.self.inside.objects.entries c.self.invariant.ends
          c.remove_object.ensures.ends);
      counted =
          rw (c.remove_object.ensures.objects, c.remove_object.ensures.cells)
          (ended_right c.args.object.0 (store_of c.self.inside) _ _ _ c.self.invariant.counted
          (sym c.is_ending.ensures ∙ c.if-is_ending.true) c.remove_object.ensures.counts);
      weighed = omega arith;
      light = omega arith;
      few = c.self.invariant.few;
    }
