use Rattle.std.proofs.Common.{◌≡◌, length}
use Rattle.vb_meaning.specs.Accesses.{accesses}
use Rattle.vb_meaning.specs.Meaning.{inside}
use Rattle.vb_meaning.specs.Reading.{walk}
use Rattle.vb_objects.specs.Seen.{seen, host}
use Rattle.vb_plain.proofs.rules.Rules.walk.Given as goal

abbrev pub invariant-loop-access : goal.invariant-loop-access
invariant-loop-access g l =
    walk (g.row.I.Denot) (inside (g.row.I.Denot) (host g.I.Intrinsics.asked g.I.Intrinsics.answered) l.p l.self.levels)
    l.fn.from (accesses l.fn.steps) (seen l.fn.playing l.fn.env)
    ≡ walk (g.row.I.Denot) (inside (g.row.I.Denot) (host g.I.Intrinsics.asked g.I.Intrinsics.answered) l.p l.self.levels)
    l.from (accesses l.steps) (seen l.playing l.env)

abbrev pub decreases-loop-access : goal.decreases-loop-access
decreases-loop-access g l = length (accesses l.steps)
