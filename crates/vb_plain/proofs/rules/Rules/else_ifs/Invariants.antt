use Rattle.std.proofs.Common.{◌≡◌, length}
use Rattle.std.specs.Option.{option_copied}
use Rattle.vb_meaning.specs.Meaning.{inside}
use Rattle.vb_meaning.specs.Statements.{else_ifs}
use Rattle.vb_objects.specs.Seen.{seen, host}
use Rattle.vb_plain.proofs.rules.Rules.else_ifs.Given as goal

abbrev pub invariant-loop-others : goal.invariant-loop-others
invariant-loop-others g l =
    else_ifs (g.row.I.Denot) (inside (g.row.I.Denot) (host g.I.Intrinsics.asked g.I.Intrinsics.answered) l.p
    l.self.levels) l.fn.others (option_copied l.otherwise) (seen l.fn.playing l.fn.env)
    ≡ else_ifs (g.row.I.Denot) (inside (g.row.I.Denot) (host g.I.Intrinsics.asked g.I.Intrinsics.answered) l.p
    l.self.levels) l.others (option_copied l.otherwise) (seen l.playing l.env)

abbrev pub decreases-loop-others : goal.decreases-loop-others
decreases-loop-others g l = length l.others
