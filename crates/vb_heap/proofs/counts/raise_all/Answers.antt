use Rattle.std.proofs.Common.{◌∙◌, sym, refl, arith}
use Rattle.vb_heap.proofs.Counting.{more_none}
use Rattle.vb_heap.proofs.CountSteps.{number_next}
use Rattle.vb_heap.proofs.Tallying.{came_behind, itself, number_below}
use Rattle.vb_heap.proofs.counts.raise_all.Goals as goal

pub loop-number-init : goal.loop-number-init
loop-number-init c = record {
  counts = λ _. sym (more_none c.args.counts.now.entries);
  ends = refl;
  pooled = (refl, refl);
  top = omega arith;
  below = refl;
}

pub loop-number-preserved : goal.loop-number-preserved
loop-number-preserved c =
    let was = c.loop-number.invariant in
    let next = number_next c.args.numbers.now c.loop-number.number-index _ c.loop-number-test.true
    (itself c.args.numbers.now c.loop-number.number-index _ c.loop-number-test.true) in
    record {
      counts = rw next (λ room. came_behind _ _ c.args.counts.now.entries c.loop-number.counts.entries _ room was.counts
          c.raise.ensures.counts);
      ends = c.raise.ensures.ends ∙ was.ends;
      pooled = (c.raise.ensures.pooled.0 ∙ was.pooled.0, c.raise.ensures.pooled.1 ∙ was.pooled.1);
      top = omega (arith, was.top, c.above-top.ensures.top);
      below =
          number_below c.args.numbers.now c.loop-number.number-index _ c.loop-number.top _ c.loop-number-test.true
          (itself c.args.numbers.now c.loop-number.number-index _ c.loop-number-test.true)
          c.above-top.ensures.top was.below c.above-top.ensures.below;
    }
