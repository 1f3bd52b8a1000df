use Rattle.std.proofs.Common.{◌≡◌, length}
use Rattle.vb_meaning.specs.Accesses.{accesses}
use Rattle.vb_meaning.specs.Assigning.{into}
use Rattle.vb_meaning.specs.Meaning.{inside}
use Rattle.vb_objects.specs.Seen.{seen, host}
use Rattle.vb_world.specs.Steps.{access_seen}
use Rattle.vb_plain.proofs.rules.Rules.into_steps.Given as goal

abbrev pub invariant-loop-next : goal.invariant-loop-next
invariant-loop-next g l =
    into (g.row.I.Denot) (inside (g.row.I.Denot) (host g.I.Intrinsics.asked g.I.Intrinsics.answered) l.p l.self.levels)
    l.how l.fn.from (access_seen l.fn.access) (accesses l.fn.steps) l.fn.value (seen l.fn.playing l.fn.env)
    ≡ into (g.row.I.Denot) (inside (g.row.I.Denot) (host g.I.Intrinsics.asked g.I.Intrinsics.answered) l.p
    l.self.levels) l.how l.from (access_seen l.access) (accesses l.steps) l.value (seen l.playing l.env)

abbrev pub decreases-loop-next : goal.decreases-loop-next
decreases-loop-next g l = length (accesses l.steps)
