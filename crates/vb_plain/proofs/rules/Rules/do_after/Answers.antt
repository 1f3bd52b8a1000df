use Rattle.std.proofs.Common.{◌∙◌}
use Rattle.vb_meaning.specs.Meaning.{inside}
use Rattle.vb_objects.specs.Seen.{host}
use Rattle.vb_meaning.proofs.AfterTurns.{after_goes_on}
use Rattle.vb_plain.proofs.rules.Rules.do_after.Goals as goal

pub loop-most-preserved : goal.loop-most-preserved
loop-most-preserved g c =
    c.loop-most.invariant
    ∙ after_goes_on (g.row.I.Denot) (inside (g.row.I.Denot) (host g.I.Intrinsics.asked g.I.Intrinsics.answered)
    c.args.p.now c.args.self.now.levels) _ _ _ _ _ _ _ _ c.loop-most-test.true c.in_ok-turn.ensures c.in-Next.is
    c.in_ok-goes_on_in-in-Next.ensures c.if-not-branch.false
