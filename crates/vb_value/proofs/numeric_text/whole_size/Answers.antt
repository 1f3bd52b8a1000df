use Rattle.std.proofs.Common.{◌^◌}
use Rattle.vb_value.proofs.Digits.{size_more}
use Rattle.vb_value.proofs.numeric_text.whole_size.Goals as goal

pub loop-digit-preserved : goal.loop-digit-preserved
loop-digit-preserved c =
    size_more c.args.digits.now c.loop-digit.digit-index c.loop-digit.size
    (10 ^ 15) c.digit-item.result c.digit_of.result c.min-size.result
    c.loop-digit-test.true c.digit-item.is c.digit_of.ensures.value c.loop-digit.invariant c.min-size.ensures
