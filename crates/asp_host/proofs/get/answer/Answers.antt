use Rattle.std.proofs.Common.{IfErr, IfOk, subst}
use Rattle.asp_get.specs.Answered.{HasAnswered, IsGetStop}
use Rattle.asp_host.specs.Get.{site_rules}
use Rattle.asp_host.proofs.get.answer.Goals as goal

pub returns-in-Ok-clause-ok : goal.returns-in-Ok-clause-ok
returns-in-Ok-clause-ok c =
    subst (λ job. IfOk c.answer_one.result (HasAnswered (site_rules c.args.site.now) job)) c.in-Ok.ensures
    c.answer_one.ensures.ok

pub returns-in-Ok-clause-err : goal.returns-in-Ok-clause-err
returns-in-Ok-clause-err c =
    subst (λ job. IfErr c.answer_one.result (IsGetStop (site_rules c.args.site.now) job)) c.in-Ok.ensures
    c.answer_one.ensures.err
