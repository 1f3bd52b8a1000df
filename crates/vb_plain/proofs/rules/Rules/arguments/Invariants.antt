use Rattle.std.proofs.Common.{◌≡◌, [], length}
use Rattle.vb_meaning.specs.Meaning.{inside}
use Rattle.vb_meaning.specs.Reading.{arguments}
use Rattle.vb_objects.specs.Seen.{seen, host}
use Rattle.vb_plain.proofs.rules.Rules.arguments.Given as goal

abbrev pub invariant-loop-expressions : goal.invariant-loop-expressions
invariant-loop-expressions g l =
    arguments (g.row.I.Denot) (inside (g.row.I.Denot) (host g.I.Intrinsics.asked g.I.Intrinsics.answered) l.p
    l.self.levels) [] l.fn.expressions (seen l.fn.playing l.fn.env)
    ≡ arguments (g.row.I.Denot) (inside (g.row.I.Denot) (host g.I.Intrinsics.asked g.I.Intrinsics.answered) l.p
    l.self.levels) l.arguments l.expressions (seen l.playing l.env)

abbrev pub decreases-loop-expressions : goal.decreases-loop-expressions
decreases-loop-expressions g l = length l.expressions
