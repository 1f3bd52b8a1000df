use Rattle.std.proofs.Common.{◌≡◌, length}
use Rattle.vb_meaning.specs.Meaning.{inside}
use Rattle.vb_meaning.specs.Reading.{values}
use Rattle.vb_objects.specs.Seen.{seen, host}
use Rattle.vb_plain.proofs.rules.Rules.values_behind.Given as goal

abbrev pub invariant-loop-expressions : goal.invariant-loop-expressions
invariant-loop-expressions g l =
    values (g.row.I.Denot) (inside (g.row.I.Denot) (host g.I.Intrinsics.asked g.I.Intrinsics.answered) l.p l.self.levels)
    l.fn.values l.fn.expressions (seen l.fn.playing l.fn.env)
    ≡ values (g.row.I.Denot) (inside (g.row.I.Denot) (host g.I.Intrinsics.asked g.I.Intrinsics.answered) l.p l.self.levels)
    l.values l.expressions (seen l.playing l.env)

abbrev pub decreases-loop-expressions : goal.decreases-loop-expressions
decreases-loop-expressions g l = length l.expressions
