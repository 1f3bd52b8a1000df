use Rattle.std.proofs.Common.{◌≡◌, length}
use Rattle.vb_meaning.specs.Loops.{each_turns}
use Rattle.vb_meaning.specs.Meaning.{inside}
use Rattle.vb_objects.specs.Seen.{seen, host}
use Rattle.vb_plain.proofs.rules.Rules.each_turns.Given as goal

abbrev pub invariant-loop-items : goal.invariant-loop-items
invariant-loop-items g l =
    each_turns (g.row.I.Denot) (inside (g.row.I.Denot) (host g.I.Intrinsics.asked g.I.Intrinsics.answered) l.p l.self.levels)
    l.variable l.fn.items l.body (seen l.fn.playing l.fn.env)
    ≡ each_turns (g.row.I.Denot) (inside (g.row.I.Denot) (host g.I.Intrinsics.asked g.I.Intrinsics.answered) l.p l.self.levels)
    l.variable l.items l.body (seen l.playing l.env)

abbrev pub decreases-loop-items : goal.decreases-loop-items
decreases-loop-items g l = length l.items
