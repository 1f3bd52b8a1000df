use Rattle.asp_desk.specs.Hands.{rules_at}
use Rattle.asp_replay.specs.Near.{past_in}
use Rattle.asp_replay.proofs.LeftNear.{borne_silent, leaves_ended}
use Rattle.asp_replay.proofs.leaving.leave.Goals as goal

pub returns-in-Err-clause-borne : goal.returns-in-Err-clause-borne
returns-in-Err-clause-borne g c = λ borne. borne_silent (rules_at g.R.Runner.meaning c.args.host.now)
    (past_in c.args.hand.now) (past_in c.wind_near.new.hand) (c.wind_near.ensures.silent borne) borne

pub returns-in-Err-clause-leaves : goal.returns-in-Err-clause-leaves
returns-in-Err-clause-leaves g c = λ items before after borne fed.
    leaves_ended (rules_at g.R.Runner.meaning c.args.host.now) items (past_in c.args.hand.now)
    (past_in c.wind_near.new.hand) c.in-Err.stop before after (c.wind_near.ensures.silent borne)
    c.wind_near.ensures.lead.hand_of.1.valid.entries c.wind_near.ensures.halted (rw c.in-Err.is at fed)

pub returns-in-Ok-clause-leaves : goal.returns-in-Ok-clause-leaves
returns-in-Ok-clause-leaves g c = λ items before after borne fed. rw c.in-Ok.is at fed
