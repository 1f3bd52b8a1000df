use Rattle.std.proofs.Common.{◌≡◌, length}
use Rattle.vb_meaning.specs.Blocks.{block}
use Rattle.vb_meaning.specs.Meaning.{inside}
use Rattle.vb_objects.specs.Seen.{seen, host}
use Rattle.vb_plain.proofs.rules.Rules.block.Given as goal

abbrev pub invariant-loop-statements : goal.invariant-loop-statements
invariant-loop-statements g l =
    block (g.row.I.Denot) (inside (g.row.I.Denot) (host g.I.Intrinsics.asked g.I.Intrinsics.answered) l.p l.self.levels)
    l.fn.statements (seen l.fn.playing l.fn.env)
    ≡ block (g.row.I.Denot) (inside (g.row.I.Denot) (host g.I.Intrinsics.asked g.I.Intrinsics.answered) l.p l.self.levels)
    l.statements (seen l.playing l.env)

abbrev pub decreases-loop-statements : goal.decreases-loop-statements
decreases-loop-statements g l = length l.statements
