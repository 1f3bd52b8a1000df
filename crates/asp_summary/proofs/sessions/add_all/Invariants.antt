use Rattle.std.proofs.Common.{reverse, take}
use Rattle.asp_summary.specs.Counted.{serials_in}
use Rattle.asp_summary.specs.Gathered.{Holds}
use Rattle.asp_summary.proofs.sessions.add_all.Given as goal

abbrev pub invariant-loop-entry : goal.invariant-loop-entry
invariant-loop-entry l = Holds (serials_in (reverse (take l.entry-index l.journal))) l.serials
