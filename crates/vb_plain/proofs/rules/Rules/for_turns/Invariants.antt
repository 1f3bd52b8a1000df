use Rattle.std.proofs.Common.{◌≡◌, ◌+◌}
use Rattle.vb_meaning.specs.Loops.{for_turns}
use Rattle.vb_meaning.specs.Meaning.{inside}
use Rattle.vb_objects.specs.Seen.{seen, host}
use Rattle.vb_plain.proofs.rules.Rules.for_turns.Given as goal

abbrev pub invariant-loop-most : goal.invariant-loop-most
invariant-loop-most g l =
    for_turns (g.row.I.Denot) (inside (g.row.I.Denot) (host g.I.Intrinsics.asked g.I.Intrinsics.answered) l.p l.self.levels)
    (l.fn.playing.ticks + 1) l.variable l.range l.body (seen l.fn.playing l.fn.env)
    ≡ for_turns (g.row.I.Denot) (inside (g.row.I.Denot) (host g.I.Intrinsics.asked g.I.Intrinsics.answered) l.p l.self.levels)
    l.most l.variable l.range l.body (seen l.playing l.env)

abbrev pub decreases-loop-most : goal.decreases-loop-most
decreases-loop-most g l = l.most
