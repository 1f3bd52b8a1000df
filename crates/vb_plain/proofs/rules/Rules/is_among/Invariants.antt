use Rattle.std.proofs.Common.{◌≡◌, length}
use Rattle.vb_meaning.specs.Meaning.{inside}
use Rattle.vb_meaning.specs.Statements.{is_among}
use Rattle.vb_objects.specs.Seen.{seen, host}
use Rattle.vb_plain.proofs.rules.Rules.is_among.Given as goal

abbrev pub invariant-loop-expressions : goal.invariant-loop-expressions
invariant-loop-expressions g l =
    is_among (g.row.I.Denot) (inside (g.row.I.Denot) (host g.I.Intrinsics.asked g.I.Intrinsics.answered) l.p
    l.self.levels) l.subject l.fn.expressions (seen l.fn.playing l.fn.env)
    ≡ is_among (g.row.I.Denot) (inside (g.row.I.Denot) (host g.I.Intrinsics.asked g.I.Intrinsics.answered) l.p
    l.self.levels) l.subject l.expressions (seen l.playing l.env)

abbrev pub decreases-loop-expressions : goal.decreases-loop-expressions
decreases-loop-expressions g l = length l.expressions
