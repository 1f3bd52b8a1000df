use Rattle.std.proofs.Common.{◌∙◌, sym, refl}
use Rattle.vb_heap.proofs.Counting.{less_none}
use Rattle.vb_heap.proofs.CountSteps.{number_less}
use Rattle.vb_heap.proofs.Tallying.{itself}
use Rattle.vb_heap.proofs.counts.lower_all.Goals as goal

pub loop-number-init : goal.loop-number-init
loop-number-init c = record { counts = sym (less_none c.args.counts.now.entries); ends = refl; pooled = (refl, refl) }

pub loop-number-preserved : goal.loop-number-preserved
loop-number-preserved c =
    let was = c.loop-number.invariant in
    record {
      counts =
          rw (c.lower.ensures.counts, was.counts)
          (sym (number_less c.args.numbers.now c.loop-number.number-index _ c.loop-number-test.true
          (itself c.args.numbers.now c.loop-number.number-index _ c.loop-number-test.true)
          c.args.counts.now.entries));
      ends = c.lower.ensures.ends ∙ was.ends;
      pooled = (c.lower.ensures.pooled.0 ∙ was.pooled.0, c.lower.ensures.pooled.1 ∙ was.pooled.1);
    }
