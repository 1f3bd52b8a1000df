use Rattle.std.specs.Prelude.{false}
use Rattle.std.proofs.Common.{IfErr, IfOk, subst}
use Rattle.asp_lane.proofs.Growing.{rules_here}
use Rattle.asp_get.proofs.answer.answer_one.Goals as goal
use Rattle.asp_get.specs.Answered.{HasAnswered, IsGetStop}
use Rattle.asp_core.specs.Kernel.{setting_of}

pub returns-clause-ok : goal.returns-clause-ok
returns-clause-ok g c =
    let same = rules_here g.R.Runner.meaning c.in-Ok.core c.args.runner.now c.args.site.now
    (setting_of c.args.seed false)
    c.in-Ok.ensures.host c.in-Ok.ensures.setting in
    subst (λ m. IfOk c.answer_over-answered.result (HasAnswered m c.args.job.now)) same
    c.answer_over-answered.ensures.ok

pub returns-clause-err : goal.returns-clause-err
returns-clause-err g c =
    let same = rules_here g.R.Runner.meaning c.in-Ok.core c.args.runner.now c.args.site.now
    (setting_of c.args.seed false)
    c.in-Ok.ensures.host c.in-Ok.ensures.setting in
    subst (λ m. IfErr c.answer_over-answered.result (IsGetStop m c.args.job.now)) same
    c.answer_over-answered.ensures.err
