use Rattle.std.proofs.Common.{◌≡◌, true, false, subst, ap}
use Rattle.asp_job.specs.declared.request.Request.{Request}
use Rattle.asp_desk.specs.Hands.{rules_at}
use Rattle.asp_serve.specs.Steps.{IsHindered, IsTold}
use Rattle.asp_serve.proofs.Coming.{comes_ended, free_after, hinders_free, more_may_come}
use Rattle.asp_serve.proofs.Stepping.{comes_hindered, comes_left}
use Rattle.asp_serve.proofs.answering.answer_request.Goals as goal

pub returns-in-Err-clause-comes : goal.returns-in-Err-clause-comes
returns-in-Err-clause-comes g c = λ bytes gives.
    let m = rules_at g.R.Runner.meaning c.args.host.now in
    comes_hindered m (g.C.Clock.may_give c.args.clock.now) c.args.count bytes c.args.reader.now c.args.request
    c.args.hand.now.lane c.admit.new.hand.lane _ c.in-Err.ended gives
    (subst (λ r. IsHindered m (λ asked. asked ≡ r) true c.args.hand.now.lane c.admit.new.hand.lane c.in-Err.ended)
    c.closing-request.ensures c.in-Err.ensures.comes)

pub returns-in-Err-clause-free : goal.returns-in-Err-clause-free
returns-in-Err-clause-free g c = hinders_free (rules_at g.R.Runner.meaning c.args.host.now) _ true
    c.args.hand.now.lane c.admit.new.hand.lane c.in-Err.ended c.admit.new.hand.run c.in-Err.ensures.comes.why

pub returns-in-Err-wait_for-clause-comes : goal.returns-in-Err-wait_for-clause-comes
returns-in-Err-wait_for-clause-comes g c = λ bytes gives.
    let m = rules_at g.R.Runner.meaning c.args.host.now in
    let may = g.C.Clock.may_give c.args.clock.now in
    comes_left m may c.args.count bytes c.args.reader.now c.args.request c.in-Ok.told c.args.hand.now.lane
    c.admit.new.hand.lane c.wait_for.new.hand.lane _ c.in-Err-wait_for.ended gives
    (subst (λ r. IsTold m may r c.in-Ok.told c.args.hand.now.lane c.admit.new.hand.lane) c.closing-request.ensures
    c.in-Ok.ensures.comes) c.in-Err-wait_for.ensures.waits

pub returns-in-Err-wait_for-clause-free : goal.returns-in-Err-wait_for-clause-free
returns-in-Err-wait_for-clause-free g c = hinders_free (rules_at g.R.Runner.meaning c.args.host.now) (λ asked. ⊥) false
    c.admit.new.hand.lane c.wait_for.new.hand.lane c.in-Err-wait_for.ended c.wait_for.new.hand.run
    c.in-Err-wait_for.ensures.waits.why

pub returns-clause-comes : goal.returns-clause-comes
returns-clause-comes g c = λ bytes gives.
    let m = rules_at g.R.Runner.meaning c.args.host.now in
    let may = g.C.Clock.may_give c.args.clock.now in
    comes_ended m may c.args.count c.rest.result bytes c.args.reader.now c.args.request c.in-Ok.told
    c.in-Ok-wait_for.answer c.send_answer-sent.result c.closing-request.result.close c.end_after.result
    c.closed_if.result c.args.hand.now.lane c.admit.new.hand.lane c.wait_for.new.hand.lane _ _ gives
    (subst (λ r. IsTold m may r c.in-Ok.told c.args.hand.now.lane c.admit.new.hand.lane) c.closing-request.ensures
    c.in-Ok.ensures.comes) c.in-Ok-wait_for.ensures.waits c.send_answer-sent.ensures c.end_after.ensures
    c.closed_if.ensures (ap (λ (r : Request). r.close) c.closing-request.ensures) c.rest.ensures

pub returns-clause-free : goal.returns-clause-free
returns-clause-free g c =
    free_after c.end_after.result c.wait_for.new.hand.run c.in-Ok-wait_for.ensures.free

pub returns-clause-last : goal.returns-clause-last
returns-clause-last g c = more_may_come c.args.count c.rest.result c.send_answer-sent.result
    c.closing-request.result.close c.args.request c.end_after.result c.closed_if.result c.requires.count
    c.end_after.ensures c.closed_if.ensures (ap (λ (r : Request). r.close) c.closing-request.ensures)
