use Rattle.std.proofs.Common.{◌≡◌, length}
use Rattle.vb_value.specs.Characters.{is_blank}
use Rattle.vb_value.specs.NumericText.{without_first}
use Rattle.vb_value.proofs.numeric_text.without_first_blanks.Given as goal

abbrev pub invariant-loop-left : goal.invariant-loop-left
invariant-loop-left l = without_first is_blank l.left ≡ without_first is_blank l.text

abbrev pub decreases-loop-left : goal.decreases-loop-left
decreases-loop-left l = length l.left
