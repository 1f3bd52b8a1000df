use Rattle.std.proofs.Common.{sym, ◌∙◌, arith}
use Rattle.vb_value.specs.Weight.{weight_of}
use Rattle.vb_heap.specs.Entries.{item_set}
use Rattle.vb_heap.specs.Inside.{store_of}
use Rattle.vb_heap.specs.Store.{numbered}
use Rattle.vb_heap.proofs.Changing.{refuses, accepts, weighs}
use Rattle.vb_heap.proofs.Ends.{table_ends}
use Rattle.vb_heap.proofs.TableCounts.{set_right}
use Rattle.vb_heap.proofs.TableWeights.{set_when}
use Rattle.vb_heap.proofs.heap.Heap.put_item.Goals as goal

pub returns-then-weight-gt-MOST_WEIGHT-clause-answer : goal.returns-then-weight-gt-MOST_WEIGHT-clause-answer
returns-then-weight-gt-MOST_WEIGHT-clause-answer c _ =
    let other = set_when (numbered c.args.dictionary.0 c.self.inside.objects.entries) c.args.at c.args.item
    (rw (sym c.self.view_is) at c.requires) in
    rw (sym c.self.view_is)
    (refuses c.self.inside c.self.invariant c.args.dictionary (item_set c.args.at c.args.item)
    c.weight_of_item-old.result (weight_of c.args.item) c.saturating_add-weight.result
    (rw c.weight_of_item-old.ensures.weight other) (omega arith)
    (omega arith) c.if-weight-gt-MOST_WEIGHT.true)

pub invariant_of-self : goal.invariant_of-self
invariant_of-self c =
    let other = set_when (numbered c.args.dictionary.0 c.self.inside.objects.entries) c.args.at c.args.item
    (rw (sym c.self.view_is) at c.requires) in
    let weighed = weighs c.self.inside c.self.invariant c.args.dictionary (item_set c.args.at c.args.item)
    c.weight_of_item-old.result (weight_of c.args.item) c.saturating_add-weight.result
    (rw c.weight_of_item-old.ensures.weight other) (omega arith) (omega arith) c.if-weight-gt-MOST_WEIGHT.false in
    let lowered = c.lower_item.ensures in
    let raised = c.raise_in-self-inside.ensures in
    record {
      new_cells = c.self.invariant.new_cells;
      new_objects =
          record {
            next = c.set_item_at.ensures.pooled.0 ∙ c.self.invariant.new_objects.next;
            most = c.set_item_at.ensures.pooled.1 ∙ c.self.invariant.new_objects.most;
          };
      new_counts =
          record {
            next = raised.pooled.0 ∙ (lowered.pooled.0 ∙ c.self.invariant.new_counts.next);
            most = raised.pooled.1 ∙ (lowered.pooled.1 ∙ c.self.invariant.new_counts.most);
          };
      ends =
          rw c.set_item_at.ensures.entries
          (table_ends _ _ (item_set c.args.at c.args.item) c.args.dictionary.0 c.self.inside.objects.entries
          c.self.invariant.ends (raised.ends ∙ lowered.ends));
      counted =
          rw c.set_item_at.ensures.entries
          (set_right (store_of c.self.inside) _ _ _ c.self.invariant.counted c.args.dictionary c.args.at c.args.item _ _
          (rw (sym c.self.view_is) at c.requires) lowered.counts raised.counts raised.top raised.below
          (omega (arith, weighed, c.if-weight-gt-MOST_WEIGHT.false)) c.self.invariant.few);
      weighed =
          rw c.set_item_at.ensures.entries weighed;
      light = c.if-weight-gt-MOST_WEIGHT.false;
      few = c.self.invariant.few;
    }

pub returns-clause-answer : goal.returns-clause-answer
returns-clause-answer c =
    let other = set_when (numbered c.args.dictionary.0 c.self.inside.objects.entries) c.args.at c.args.item
    (rw (sym c.self.view_is) at c.requires) in
    rw (sym c.self.view_is)
    (accepts c.self.inside c.self.invariant c.args.dictionary (item_set c.args.at c.args.item)
    c.weight_of_item-old.result (weight_of c.args.item) c.saturating_add-weight.result
    (rw c.weight_of_item-old.ensures.weight other) (omega arith) (omega arith)
    c.if-weight-gt-MOST_WEIGHT.false (omega arith) (omega arith))
