use Rattle.std.proofs.Common.{◌≡◌}
use Rattle.vb_meaning.specs.Meaning.{inside}
use Rattle.vb_meaning.specs.Releases.{settle_last, settle_last_times}
use Rattle.vb_objects.specs.Seen.{seen, host}
use Rattle.vb_plain.proofs.rules.Rules.settle_last.Given as goal

abbrev pub invariant-loop-more : goal.invariant-loop-more
invariant-loop-more g l =
    settle_last (g.row.I.Denot) (inside (g.row.I.Denot) (host g.I.Intrinsics.asked g.I.Intrinsics.answered) l.p l.self.levels)
    (seen l.fn.playing l.fn.env)
    ≡ settle_last_times (g.row.I.Denot) (inside (g.row.I.Denot) (host g.I.Intrinsics.asked g.I.Intrinsics.answered) l.p
    l.self.levels) l.more (seen l.playing l.env)

abbrev pub decreases-loop-more : goal.decreases-loop-more
decreases-loop-more g l = l.more
