use Rattle.std.proofs.Common.{◌+◌, ◌-◌, ◌*◌, length}
use Rattle.vb_strings.proofs.Searched.{Searched}
use Rattle.vb_strings.proofs.places.first_in.Given as goal

abbrev pub invariant-loop-start : goal.invariant-loop-start
invariant-loop-start l = Searched l.comparison l.text l.pattern 0 l.start l.matched

abbrev pub decreases-loop-start : goal.decreases-loop-start
decreases-loop-start l = 2 * length l.text - (2 * l.start + l.matched)
