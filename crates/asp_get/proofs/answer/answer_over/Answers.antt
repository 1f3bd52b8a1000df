use Rattle.std.proofs.Common.{IfErr, IfOk, subst, sym}
use Rattle.asp_core.specs.Kernel.{past_of, rules_of}
use Rattle.asp_get.proofs.Coming.{failed_so, first_stop, ready_so}
use Rattle.asp_get.proofs.answer.answer_over.Goals as goal
use Rattle.asp_get.specs.Answered.{HasAnswered, IsGetStop}
use Rattle.asp_get.specs.Underway.{IsReady}
use Rattle.asp_lane.proofs.Growing.{host_grown, rules_grown}

pub answer_job-requires-clause-host : goal.answer_job-requires-clause-host
answer_job-requires-clause-host g c =
    host_grown c.args.core.now c.begin_host.new.core c.args.runner.now c.args.site.now c.begin_host.ensures.grows
    c.requires.host

pub answer_job-requires-clause-ready : goal.answer_job-requires-clause-ready
answer_job-requires-clause-ready g c =
    let m = rules_of g.R.Runner.meaning c.args.core.now in
    let new = c.begin_host.new.core in
    let same = rules_grown g.R.Runner.meaning c.args.core.now new c.begin_host.ensures.grows in
    subst (λ rules. IsReady rules (past_of new)) (sym same)
    (ready_so m (past_of new) c.in-Ok.fail c.in-None.is c.in-Ok.ensures.ok c.in-Ok.ensures.free)

pub returns-in-None-clause-ok : goal.returns-in-None-clause-ok
returns-in-None-clause-ok g c =
    let same = rules_grown g.R.Runner.meaning c.args.core.now c.begin_host.new.core c.begin_host.ensures.grows in
    subst (λ m. IfOk c.answer_job.result (HasAnswered m c.args.job.now)) same c.answer_job.ensures.ok

pub returns-in-None-clause-err : goal.returns-in-None-clause-err
returns-in-None-clause-err g c =
    let same = rules_grown g.R.Runner.meaning c.args.core.now c.begin_host.new.core c.begin_host.ensures.grows in
    subst (λ m. IfErr c.answer_job.result (IsGetStop m c.args.job.now)) same c.answer_job.ensures.err

pub returns-in-Some-clause-err : goal.returns-in-Some-clause-err
returns-in-Some-clause-err g c =
    failed_so (rules_of g.R.Runner.meaning c.args.core.now) (past_of c.begin_host.new.core) c.in-Ok.fail c.in-Some.fail
    c.in-Some.is c.in-Ok.ensures.ok

pub returns-in-Err-clause-err : goal.returns-in-Err-clause-err
returns-in-Err-clause-err g c =
    let m = rules_of g.R.Runner.meaning c.args.core.now in
    subst (IsGetStop m c.args.job.now) (sym c.from.ensures)
    (first_stop m c.args.job.now c.in-Err.stop c.in-Err.ensures.err)
