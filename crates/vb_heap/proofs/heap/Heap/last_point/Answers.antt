use Rattle.std.proofs.Common.{Some, refl, ◌∙◌, arith}
use Rattle.vb_heap.specs.Inside.{store_of}
use Rattle.vb_heap.specs.Releases.{with_ending}
use Rattle.vb_heap.proofs.CountsAfter.{ending_counts}
use Rattle.vb_heap.proofs.Ends.{named_ends}
use Rattle.vb_heap.proofs.ItemMoves.{ending_moves}
use Rattle.vb_heap.proofs.ObjectWeights.{ending_weighs}
use Rattle.vb_heap.proofs.Tallying.{still_right}
use Rattle.vb_heap.proofs.heap.Heap.last_point.Goals as goal

pub invariant_of-self : goal.invariant_of-self
invariant_of-self c =
    let same_weight = ending_weighs c.self.inside.objects.entries c.in_ok-number.number in
    let was = c.self.invariant.weighed in
    record {
      new_cells = c.self.invariant.new_cells;
      new_objects =
          record {
            next = c.set_ending.ensures.pooled.0 ∙ c.self.invariant.new_objects.next;
            most = c.set_ending.ensures.pooled.1 ∙ c.self.invariant.new_objects.most;
          };
      new_counts =
          record {
            next = c.end_count.ensures.pooled.0 ∙ c.self.invariant.new_counts.next;
            most = c.end_count.ensures.pooled.1 ∙ c.self.invariant.new_counts.most;
          };
      ends =
          rw c.set_ending.ensures.objects
          (named_ends _ _ c.in_ok-number.number c.self.inside.objects.entries c.self.invariant.ends
          c.end_count.ensures.ends);
      counted =
          rw (c.set_ending.ensures.objects, c.end_count.ensures.counts)
          (still_right (store_of c.self.inside) (with_ending (Some c.in_ok-number.number) (store_of c.self.inside)) _ _ _
          c.self.invariant.counted (ending_moves (Some c.in_ok-number.number) (store_of c.self.inside))
          (ending_counts (Some c.in_ok-number.number) (store_of c.self.inside)) refl);
      weighed = rw c.set_ending.ensures.objects (omega arith);
      light = c.self.invariant.light;
      few = c.self.invariant.few;
    }
