use Rattle.std.proofs.Common.{◌≡◌, length}
use Rattle.vb_meaning.specs.Meaning.{inside}
use Rattle.vb_meaning.specs.Statements.{first_case}
use Rattle.vb_objects.specs.Seen.{seen, host}
use Rattle.vb_plain.proofs.rules.Rules.first_case.Given as goal

abbrev pub invariant-loop-cases : goal.invariant-loop-cases
invariant-loop-cases g l =
    first_case (g.row.I.Denot) (inside (g.row.I.Denot) (host g.I.Intrinsics.asked g.I.Intrinsics.answered) l.p
    l.self.levels) 0 l.subject l.fn.cases (seen l.fn.playing l.fn.env)
    ≡ first_case (g.row.I.Denot) (inside (g.row.I.Denot) (host g.I.Intrinsics.asked g.I.Intrinsics.answered) l.p
    l.self.levels) l.number l.subject l.cases (seen l.playing l.env)

abbrev pub decreases-loop-cases : goal.decreases-loop-cases
decreases-loop-cases g l = length l.cases
