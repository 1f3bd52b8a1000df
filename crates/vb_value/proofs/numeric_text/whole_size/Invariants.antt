use Rattle.std.proofs.Common.{◌≡◌, ◌^◌, min, take}
use Rattle.vb_value.specs.NumericText.{number_of}
use Rattle.vb_value.proofs.numeric_text.whole_size.Given as goal

abbrev pub invariant-loop-digit : goal.invariant-loop-digit
invariant-loop-digit l = l.size ≡ min (number_of (take l.digit-index l.digits)) (10 ^ 15)
