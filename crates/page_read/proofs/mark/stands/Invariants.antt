use Rattle.std.proofs.Common.{◌≡◌, take}
use Rattle.vb_value.specs.Folding.{folded}
use Rattle.page_read.proofs.mark.stands.Given as goal

abbrev pub invariant-loop-at : goal.invariant-loop-at
invariant-loop-at l = take l.at (folded l.text) ≡ take l.at l.mark
