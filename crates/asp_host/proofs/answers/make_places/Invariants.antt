use Rattle.std.proofs.Common.{◌+◌, ◌-◌, length}
use Rattle.asp_host.specs.Answered.{AreSameMarks}
use Rattle.asp_host.proofs.answers.make_places.Given as goal

abbrev pub invariant-loop-pages : goal.invariant-loop-pages
invariant-loop-pages l = AreSameMarks l.initial.pages l.pages

abbrev pub decreases-loop-pages : goal.decreases-loop-pages
decreases-loop-pages l = l.run + 1 - length l.pages
