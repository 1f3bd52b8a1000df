use Rattle.std.proofs.Common.{◌≡◌, ◌≤◌, length, take}
use Rattle.vb_value.specs.NumericText.{without_last}
use Rattle.vb_strings.specs.Parts.{is_space}
use Rattle.vb_strings.proofs.parts.without_last_spaces.Given as goal

abbrev pub invariant-loop-end : goal.invariant-loop-end
invariant-loop-end l =
    (l.end ≤ length l.text) × (without_last is_space (take l.end l.text) ≡ without_last is_space l.text)

abbrev pub decreases-loop-end : goal.decreases-loop-end
decreases-loop-end l = l.end
