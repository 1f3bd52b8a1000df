use Rattle.std.proofs.Common.{◌≡◌, ◌≤◌, length, take}
use Rattle.vb_value.specs.Characters.{is_blank}
use Rattle.vb_value.specs.NumericText.{without_last}
use Rattle.vb_value.proofs.numeric_text.without_last_blanks.Given as goal

abbrev pub invariant-loop-end : goal.invariant-loop-end
invariant-loop-end l =
    (l.end ≤ length l.text) × (without_last is_blank (take l.end l.text) ≡ without_last is_blank l.text)

abbrev pub decreases-loop-end : goal.decreases-loop-end
decreases-loop-end l = l.end
