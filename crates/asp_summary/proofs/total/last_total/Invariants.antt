use Rattle.std.proofs.Common.{◌≡◌, reverse, take}
use Rattle.asp_summary.specs.Counted.{last_total}
use Rattle.asp_summary.proofs.total.last_total.Given as goal

abbrev pub invariant-loop-entry : goal.invariant-loop-entry
invariant-loop-entry l = l.total ≡ last_total (reverse (take l.entry-index l.journal))
