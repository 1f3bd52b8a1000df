use Rattle.std.proofs.Common.{◌≡◌, length}
use Rattle.vb_value.specs.NumericText.{without_first}
use Rattle.vb_strings.specs.Parts.{is_space}
use Rattle.vb_strings.proofs.parts.without_first_spaces.Given as goal

abbrev pub invariant-loop-left : goal.invariant-loop-left
invariant-loop-left l = without_first is_space l.left ≡ without_first is_space l.text

abbrev pub decreases-loop-left : goal.decreases-loop-left
decreases-loop-left l = length l.left
