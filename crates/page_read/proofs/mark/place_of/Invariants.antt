use Rattle.std.proofs.Common.{◌≡◌, drop}
use Rattle.page_read.specs.Marks as spec
use Rattle.page_read.proofs.Marks.{from_there}
use Rattle.page_read.proofs.mark.place_of.Given as goal

abbrev pub invariant-loop-at : goal.invariant-loop-at
invariant-loop-at l = spec.place_of l.mark l.text ≡ from_there l.at (spec.place_of l.mark (drop l.at l.text))
