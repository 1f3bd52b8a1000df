use Rattle.std.proofs.Common.{◌≡◌, false}
use Rattle.asp_desk.specs.Hands.{rules_at}
use Rattle.asp_serve.proofs.Asking.{hindered_due, hindered_then}
use Rattle.asp_serve.proofs.Lanes.{works_then}
use Rattle.asp_serve.proofs.admitting.work_on.Goals as goal

pub returns-in-Ok-rest-clause-again : goal.returns-in-Ok-rest-clause-again
returns-in-Ok-rest-clause-again g c = works_then _ _ _ c.in-Ok.ensures.ok c.in-Ok-rest.ensures.ok

pub returns-in-Err-rest-clause-comes : goal.returns-in-Err-rest-clause-comes
returns-in-Err-rest-clause-comes g c = λ request moment.
    let m = rules_at g.R.Runner.meaning c.args.host.now in
    hindered_due m (λ asked. asked ≡ request) c.args.hand.now.lane c.rest.new.hand.lane c.in-Err-rest.ended
    (hindered_then m (λ asked. ⊥) false c.args.hand.now.lane c.work.new.hand.lane c.rest.new.hand.lane
    c.in-Err-rest.ended c.in-Ok.ensures.ok c.in-Err-rest.ensures.err)

pub returns-in-Err-clause-comes : goal.returns-in-Err-clause-comes
returns-in-Err-clause-comes g c = λ request moment.
    hindered_due (rules_at g.R.Runner.meaning c.args.host.now) (λ asked. asked ≡ request) c.args.hand.now.lane
    c.work.new.hand.lane c.in-Err.ended c.in-Err.ensures.err
