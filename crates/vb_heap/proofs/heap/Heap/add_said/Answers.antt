use Rattle.std.proofs.Common.{sym, ◌∙◌, arith}
use Rattle.vb_heap.specs.Entries.{pair_added}
use Rattle.vb_heap.specs.Inside.{store_of}
use Rattle.vb_heap.specs.PairWeight.{pair_weight}
use Rattle.vb_heap.specs.Store.{numbered}
use Rattle.vb_heap.proofs.Changing.{refuses, accepts, weighs}
use Rattle.vb_heap.proofs.Ends.{table_ends}
use Rattle.vb_heap.proofs.TableCounts.{added_right}
use Rattle.vb_heap.proofs.TableWeights.{added_when}
use Rattle.vb_heap.proofs.heap.Heap.add_said.Goals as goal

pub returns-then-weight-gt-MOST_WEIGHT-clause-answer : goal.returns-then-weight-gt-MOST_WEIGHT-clause-answer
returns-then-weight-gt-MOST_WEIGHT-clause-answer c _ =
    let more = added_when (numbered c.args.dictionary.0 c.self.inside.objects.entries) c.args.pair
    (rw (sym c.self.view_is) at c.requires.there) in
    rw (sym c.self.view_is)
    (refuses c.self.inside c.self.invariant c.args.dictionary (pair_added c.args.pair) 0 (pair_weight c.args.pair)
    c.saturating_add-weight.result more (omega arith) (omega arith) c.if-weight-gt-MOST_WEIGHT.true)

pub invariant_of-self-2 : goal.invariant_of-self-2
invariant_of-self-2 c =
    let more = added_when (numbered c.args.dictionary.0 c.self.inside.objects.entries) c.args.pair
    (rw (sym c.self.view_is) at c.requires.there) in
    let weighed = weighs c.self.inside c.self.invariant c.args.dictionary (pair_added c.args.pair) 0
    (pair_weight c.args.pair) c.saturating_add-weight.result more (omega arith) (omega arith)
    c.if-weight-gt-MOST_WEIGHT.false in
    let raised = c.raise_all-self-inside.ensures in
    let found = c.as_slice.ensures ∙ c.in_ok-found.ensures in
    record {
      new_cells = c.self.invariant.new_cells;
      new_objects =
          record {
            next = c.in_ok-add_pair.ensures.pooled.0 ∙ c.self.invariant.new_objects.next;
            most = c.in_ok-add_pair.ensures.pooled.1 ∙ c.self.invariant.new_objects.most;
          };
      new_counts =
          record {
            next = raised.pooled.0 ∙ c.self.invariant.new_counts.next;
            most = raised.pooled.1 ∙ c.self.invariant.new_counts.most;
          };
      ends =
          rw c.in_ok-add_pair.ensures.entries
          (table_ends _ _ (pair_added c.args.pair) c.args.dictionary.0 c.self.inside.objects.entries
          c.self.invariant.ends raised.ends);
      counted =
          rw c.in_ok-add_pair.ensures.entries
          (added_right (store_of c.self.inside) _ _ _ c.self.invariant.counted c.args.dictionary c.args.pair _
          (rw (sym c.self.view_is) at c.requires.there) (rw found at raised.counts) raised.top (rw found at raised.below)
          (omega (arith, weighed, c.if-weight-gt-MOST_WEIGHT.false)) c.self.invariant.few);
      weighed =
          rw c.in_ok-add_pair.ensures.entries weighed;
      light = c.if-weight-gt-MOST_WEIGHT.false;
      few = c.self.invariant.few;
    }

pub returns-clause-answer : goal.returns-clause-answer
returns-clause-answer c =
    let more = added_when (numbered c.args.dictionary.0 c.self.inside.objects.entries) c.args.pair
    (rw (sym c.self.view_is) at c.requires.there) in
    rw (sym c.self.view_is)
    (accepts c.self.inside c.self.invariant c.args.dictionary (pair_added c.args.pair) 0 (pair_weight c.args.pair)
    c.saturating_add-weight.result more (omega arith) (omega arith) c.if-weight-gt-MOST_WEIGHT.false
    (omega arith) (omega arith))
