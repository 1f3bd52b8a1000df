use Rattle.std.proofs.Common.{sym, ◌∙◌}
use Rattle.vb_read.specs.Depths.{rules}
use Rattle.vb_read.proofs.Cases.{opens_some, cases_more, cases_less}
use Rattle.vb_read.proofs.place.Place.cases.Goals as goal

pub loop-cursor-smaller : goal.loop-cursor-smaller
loop-cursor-smaller g c = cases_less (rules c.args.self.now.looser) c.args.self.now.depth (opens_some _
    c.requires.opens) _ _ _ _ _
    (sym c.sees_keyword.ensures ∙ c.loop-cursor-test.true) c.in_ok-line.ensures
    (sym c.sees_keyword-in-loop-cursor.ensures ∙ c.if-sees_keyword.false) c.in_ok-case_from.ensures

pub loop-cursor-preserved : goal.loop-cursor-preserved
loop-cursor-preserved g c = cases_more (rules c.args.self.now.looser) c.args.self.now.depth (opens_some _
    c.requires.opens) _ c.loop-cursor.found
    c.loop-cursor.cursor.rest.now _ _ _ _ _ c.loop-cursor.invariant
    (sym c.sees_keyword.ensures ∙ c.loop-cursor-test.true) c.in_ok-line.ensures
    (sym c.sees_keyword-in-loop-cursor.ensures ∙ c.if-sees_keyword.false) c.in_ok-case_from.ensures
    c.in_ok-push.ensures
