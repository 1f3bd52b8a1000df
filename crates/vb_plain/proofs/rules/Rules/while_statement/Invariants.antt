use Rattle.std.proofs.Common.{◌≡◌}
use Rattle.vb_meaning.specs.Loops.{while_statement, before_turns, leaves_none}
use Rattle.vb_meaning.specs.Meaning.{inside}
use Rattle.vb_meaning.specs.Statements.{condition}
use Rattle.vb_objects.specs.Seen.{seen, host}
use Rattle.vb_plain.proofs.rules.Rules.while_statement.Given as goal

abbrev pub invariant-loop-most : goal.invariant-loop-most
invariant-loop-most g l =
    while_statement (g.row.I.Denot) (inside (g.row.I.Denot) (host g.I.Intrinsics.asked g.I.Intrinsics.answered) l.p l.self.levels)
    l.test l.body (seen l.fn.playing l.fn.env)
    ≡ before_turns (g.row.I.Denot) (inside (g.row.I.Denot) (host g.I.Intrinsics.asked g.I.Intrinsics.answered) l.p l.self.levels)
    l.most leaves_none (condition (g.row.I.Denot)
    (inside (g.row.I.Denot) (host g.I.Intrinsics.asked g.I.Intrinsics.answered) l.p l.self.levels) l.test)
    l.body (seen l.playing l.env)

abbrev pub decreases-loop-most : goal.decreases-loop-most
decreases-loop-most g l = l.most
