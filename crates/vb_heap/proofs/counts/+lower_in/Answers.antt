use Rattle.std.proofs.Common.{◌∙◌, sym, refl}
use Rattle.vb_heap.specs.References.{references}
use Rattle.vb_heap.proofs.Counting.{less_none}
use Rattle.vb_heap.proofs.CountSteps.{items_less, less_next}
use Rattle.vb_heap.proofs.Tallying.{refers_to_none}
use Rattle.vb_heap.proofs.counts.+lower_in.Goals as goal

pub loop-item-init : goal.loop-item-init
loop-item-init t c = record { counts = sym (less_none c.args.counts.now.entries); ends = refl; pooled = (refl, refl) }

pub loop-item-preserved : goal.loop-item-preserved
loop-item-preserved t c =
    let was = c.loop-item.invariant in
    let one = c.lower_in.ensures in
    record {
      counts =
          rw (one.counts, was.counts)
          (sym (less_next references c.as_slice-item-items.result.now c.loop-item.item-index _ c.loop-item-test.true
          c.item-item.is c.args.counts.now.entries));
      ends = one.ends ∙ was.ends;
      pooled = (one.pooled.0 ∙ was.pooled.0, one.pooled.1 ∙ was.pooled.1);
    }

pub returns-after-loop-item-clause-counts : goal.returns-after-loop-item-clause-counts
returns-after-loop-item-clause-counts t c =
    rw c.loop-item.invariant.counts
    (items_less c.args.value.now c.in-Arr.array c.as_slice-item-items.result.now c.in-Arr.is
    c.as_slice-item-items.ensures
    c.loop-item.item-index c.args.counts.now.entries c.loop-item-test.false)

pub returns-in_default-clause-counts : goal.returns-in_default-clause-counts
returns-in_default-clause-counts t c =
    rw (refers_to_none c.args.value.now c.in_default.not-Obj c.in_default.not-Arr)
    (sym (less_none c.args.counts.now.entries))
