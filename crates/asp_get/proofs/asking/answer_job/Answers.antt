use Rattle.std.proofs.Common.{subst, sym}
use Rattle.std.proofs.lemmas.Result.{err_from_is_err_and}
use Rattle.asp_core.specs.Kernel.{past_of, rules_of}
use Rattle.asp_get.proofs.Coming.{answered_back, memory_back}
use Rattle.asp_lane.proofs.Growing.{rules_grown}
use Rattle.asp_get.proofs.asking.answer_job.Goals as goal
use Rattle.asp_get.specs.Answered.{IsGetStop}

pub returns-in_err-run-clause-err : goal.returns-in_err-run-clause-err
returns-in_err-run-clause-err g c =
    let p = err_from_is_err_and c.from_residual.result c.from_residual.ensures.1 in
    rw p.1 (subst (IsGetStop (rules_of g.R.Runner.meaning c.args.core.now) c.args.job.now) (sym p.2)
    c.in_err-run.ensures.err)

pub returns-clause-ok : goal.returns-clause-ok
returns-clause-ok g c =
    let old = c.args.core.now in
    let new = c.ask.new.core in
    let meaning = g.R.Runner.meaning in
    answered_back (rules_of meaning old) (rules_of meaning new) c.args.job.now c.in_ok-run.run' (past_of old)
    (past_of new) c.hand_out.result (rules_grown meaning old new c.in_ok-run.ensures.grows) c.in_ok-run.ensures.ok
    c.hand_out.ensures.ok

pub returns-clause-err : goal.returns-clause-err
returns-clause-err g c =
    memory_back (rules_of g.R.Runner.meaning c.args.core.now) c.args.job.now c.hand_out.result c.hand_out.ensures.err
