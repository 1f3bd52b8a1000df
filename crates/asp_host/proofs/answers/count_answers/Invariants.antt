use Rattle.std.proofs.Common.{reverse, take}
use Rattle.asp_host.specs.Answered.{AreMarks}
use Rattle.asp_host.proofs.Marks.{AreCounted}
use Rattle.asp_host.proofs.answers.count_answers.Given as goal

abbrev pub invariant-loop-entry : goal.invariant-loop-entry
invariant-loop-entry l = AreMarks (reverse (take l.entry-index l.journal)) l.pages
    × AreCounted (reverse (take l.entry-index l.journal)) l.count
