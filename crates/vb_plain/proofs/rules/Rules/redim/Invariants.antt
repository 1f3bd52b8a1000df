use Rattle.std.proofs.Common.{◌≡◌, length}
use Rattle.vb_meaning.specs.Meaning.{inside}
use Rattle.vb_meaning.specs.Statements.{redim}
use Rattle.vb_objects.specs.Seen.{seen, host}
use Rattle.vb_plain.proofs.rules.Rules.redim.Given as goal

abbrev pub invariant-loop-arrays : goal.invariant-loop-arrays
invariant-loop-arrays g l =
    redim (g.row.I.Denot) (inside (g.row.I.Denot) (host g.I.Intrinsics.asked g.I.Intrinsics.answered) l.p l.self.levels)
    l.preserve l.fn.arrays (seen l.fn.playing l.fn.env)
    ≡ redim (g.row.I.Denot) (inside (g.row.I.Denot) (host g.I.Intrinsics.asked g.I.Intrinsics.answered) l.p
    l.self.levels) l.preserve l.arrays (seen l.playing l.env)

abbrev pub decreases-loop-arrays : goal.decreases-loop-arrays
decreases-loop-arrays g l = length l.arrays
