use Rattle.std.proofs.Common.{refl, ◌∙◌, arith}
use Rattle.vb_heap.specs.Entries.{emptied}
use Rattle.vb_heap.specs.Inside.{store_of}
use Rattle.vb_heap.specs.Store.{numbered}
use Rattle.vb_heap.proofs.Ends.{table_ends}
use Rattle.vb_heap.proofs.TableCounts.{emptied_right}
use Rattle.vb_heap.proofs.TableWeights.{weight_changed, found_within}
use Rattle.vb_heap.proofs.heap.Heap.drop_entries.Goals as goal

pub overflow_sub-self : goal.overflow_sub-self
overflow_sub-self c =
    let gone = c.drop_pairs.ensures.weight in
    let was = c.self.invariant.weighed in
    let within = found_within c.self.inside.objects.entries c.args.dictionary.0
    (numbered c.args.dictionary.0 c.self.inside.objects.entries) refl in
    omega arith

pub invariant_of-self : goal.invariant_of-self
invariant_of-self c =
    let gone = c.drop_pairs.ensures.weight in
    let was = c.self.invariant.weighed in
    let most = c.self.invariant.light in
    let all = weight_changed emptied c.self.inside.objects.entries c.args.dictionary.0 in
    record {
      new_cells = c.self.invariant.new_cells;
      new_objects =
          record {
            next = c.drop_pairs.ensures.pooled.0 ∙ c.self.invariant.new_objects.next;
            most = c.drop_pairs.ensures.pooled.1 ∙ c.self.invariant.new_objects.most;
          };
      new_counts =
          record {
            next = c.lower_items.ensures.pooled.0 ∙ c.self.invariant.new_counts.next;
            most = c.lower_items.ensures.pooled.1 ∙ c.self.invariant.new_counts.most;
          };
      ends =
          rw c.drop_pairs.ensures.entries
          (table_ends _ _ emptied c.args.dictionary.0 c.self.inside.objects.entries
          c.self.invariant.ends c.lower_items.ensures.ends);
      counted =
          rw c.drop_pairs.ensures.entries
          (emptied_right (store_of c.self.inside) _ _ _ c.self.invariant.counted c.args.dictionary
          c.lower_items.ensures.counts);
      weighed = rw c.drop_pairs.ensures.entries (omega arith);
      light = omega arith;
      few = c.self.invariant.few;
    }
