use Rattle.std.proofs.Common.{◌∙◌, sym, refl, arith}
use Rattle.vb_heap.specs.References.{references}
use Rattle.vb_heap.proofs.Counting.{more_none}
use Rattle.vb_heap.proofs.CountSteps.{all_parts, item_parts, part_next}
use Rattle.vb_heap.proofs.Tallying.{all_came, came_behind, items_below, part_below, refers_to_none}
use Rattle.vb_heap.proofs.counts.+raise_in.Goals as goal

pub loop-item-init : goal.loop-item-init
loop-item-init t c = record {
  counts = λ _. sym (more_none c.args.counts.now.entries);
  ends = refl;
  pooled = (refl, refl);
  top = omega arith;
  below = refl;
}

pub loop-item-preserved : goal.loop-item-preserved
loop-item-preserved t c =
    let was = c.loop-item.invariant in
    let one = c.raise_in-top.ensures in
    let next = part_next references c.as_slice-item-items.result.now c.loop-item.item-index _ c.loop-item-test.true
    c.item-item.is in
    record {
      counts = rw next (λ room. came_behind _ _ c.args.counts.now.entries c.loop-item.counts.entries _ room was.counts
          one.counts);
      ends = one.ends ∙ was.ends;
      pooled = (one.pooled.0 ∙ was.pooled.0, one.pooled.1 ∙ was.pooled.1);
      top = omega (arith, was.top, one.top);
      below =
          part_below references c.as_slice-item-items.result.now c.loop-item.item-index _ c.loop-item.top _
          c.loop-item-test.true c.item-item.is one.top was.below one.below;
    }

pub returns-after-loop-item-clause-counts : goal.returns-after-loop-item-clause-counts
returns-after-loop-item-clause-counts t c room =
    all_came _ _ c.args.counts.now.entries _
    (all_parts references c.as_slice-item-items.result.now c.loop-item.item-index c.loop-item-test.false
    ∙ sym (item_parts c.args.value.now c.in-Arr.array c.as_slice-item-items.result.now c.in-Arr.is
    c.as_slice-item-items.ensures))
    c.loop-item.invariant.counts room

pub returns-after-loop-item-clause-below : goal.returns-after-loop-item-clause-below
returns-after-loop-item-clause-below t c =
    items_below c.args.value.now c.in-Arr.array c.as_slice-item-items.result.now c.loop-item.item-index c.loop-item.top
    c.in-Arr.is c.as_slice-item-items.ensures c.loop-item-test.false c.loop-item.invariant.below

pub returns-in_default-clause-counts : goal.returns-in_default-clause-counts
returns-in_default-clause-counts t c _ =
    rw (refers_to_none c.args.value.now c.in_default.not-Obj c.in_default.not-Arr)
    (sym (more_none c.args.counts.now.entries))

pub returns-in_default-clause-below : goal.returns-in_default-clause-below
returns-in_default-clause-below t c =
    rw (refers_to_none c.args.value.now c.in_default.not-Obj c.in_default.not-Arr) refl
