use Rattle.std.proofs.Common.{◌≡◌, []}
use Rattle.vb_meaning.specs.Accesses.{accesses}
use Rattle.vb_meaning.specs.Meaning.{inside}
use Rattle.vb_meaning.specs.Reading.{group_values}
use Rattle.vb_objects.specs.Seen.{seen, host}
use Rattle.vb_plain.proofs.rules.Rules.group_values.Given as goal

abbrev pub invariant-loop-supplied : goal.invariant-loop-supplied
invariant-loop-supplied g l =
    group_values (g.row.I.Denot) (inside (g.row.I.Denot) (host g.I.Intrinsics.asked g.I.Intrinsics.answered) l.p
    l.self.levels) l.fn.groups [] (accesses l.fn.steps) (seen l.fn.playing l.fn.env)
    ≡ group_values (g.row.I.Denot) (inside (g.row.I.Denot) (host g.I.Intrinsics.asked g.I.Intrinsics.answered) l.p
    l.self.levels) l.groups l.values (accesses l.steps) (seen l.playing l.env)

abbrev pub decreases-loop-supplied : goal.decreases-loop-supplied
decreases-loop-supplied g l = l.groups
