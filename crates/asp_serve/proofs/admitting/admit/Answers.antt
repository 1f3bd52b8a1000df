use Rattle.std.proofs.Common.{◌≡◌, refl, subst, sym, ◌∙◌, ap}
use Rattle.asp_job.specs.declared.job.Job.{Job}
use Rattle.asp_desk.specs.Hands.{rules_at}
use Rattle.asp_serve.specs.Jobs.{job_for}
use Rattle.asp_serve.proofs.Asking.{asks_may, asks_then}
use Rattle.asp_serve.proofs.Lanes.{works_none, works_then}
use Rattle.asp_serve.proofs.admitting.admit.Goals as goal

pub loop-init : goal.loop-init
loop-init g c = (c.requires.hand, works_none c.args.hand.now.lane c.args.hand.now.lane refl)

pub loop-preserved : goal.loop-preserved
loop-preserved g c = (
  c.ask_round.ensures.hand,
  works_then c.args.hand.now.lane c.loop.hand.lane c.ask_round.new.hand.lane c.loop.invariant.1
      c.in_default.ensures.again,
)

pub returns-in-Some-ask_round-clause-comes : goal.returns-in-Some-ask_round-clause-comes
returns-in-Some-ask_round-clause-comes g c =
    let m = rules_at g.R.Runner.meaning c.args.host.now in
    let is = c.job_for-job.ensures in
    let moment_is = ap (λ (j : Job). j.moment) is in
    let same = is ∙ ap (job_for c.args.request) (sym moment_is) in
    asks_then m (g.C.Clock.may_give c.args.clock.now) c.args.request c.args.hand.now.lane c.loop.hand.lane
    c.ask_round.new.hand.lane c.in-Some-ask_round.asked c.loop.invariant.1
    (asks_may (λ second. second ≡ c.job_for-job.result.moment) (g.C.Clock.may_give c.args.clock.now)
    (λ second e. subst (g.C.Clock.may_give c.args.clock.now) (sym (e ∙ moment_is)) c.seconds.ensures) m c.args.request
    c.loop.hand.lane c.ask_round.new.hand.lane c.in-Some-ask_round.asked
    (c.in-Some-ask_round.ensures.comes c.args.request same))
