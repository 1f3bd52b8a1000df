use Rattle.std.proofs.Common.{◌+◌, ◌-◌, ◌*◌, length}
use Rattle.vb_strings.proofs.BorderTables.{Known}
use Rattle.vb_strings.proofs.borders.borders.Given as goal

abbrev pub invariant-loop-start : goal.invariant-loop-start
invariant-loop-start l = Known l.comparison l.pattern l.borders l.start l.matched

abbrev pub decreases-loop-start : goal.decreases-loop-start
decreases-loop-start l = 2 * length l.pattern - (2 * l.start + l.matched)
