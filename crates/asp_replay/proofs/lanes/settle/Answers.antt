use Rattle.asp_desk.specs.Hands.{rules_at}
use Rattle.asp_replay.specs.Near.{past_in}
use Rattle.asp_replay.proofs.Endings.{settled_fed}
use Rattle.asp_replay.proofs.LeftNear.{borne_silent, leaves_later}
use Rattle.asp_replay.proofs.lanes.settle.Goals as goal

pub returns-then-not-early-clause-leaves : goal.returns-then-not-early-clause-leaves
returns-then-not-early-clause-leaves g c = λ items before after borne left. left borne

pub returns-in-Ok-clause-leaves : goal.returns-in-Ok-clause-leaves
returns-in-Ok-clause-leaves g c = λ items before after borne left.
    let m = rules_at g.R.Runner.meaning c.args.host.now in
    let old = past_in c.args.hand.now in
    let new = past_in c.halt_near.new.hand in
    let grows = c.halt_near.ensures.silent borne in
    let is = left (borne_silent m old new grows borne) in
    settled_fed m items old new before after grows c.halt_near.ensures.lead.hand_of.1.valid.entries
    c.halt_near.ensures.halted (rw c.in-Ok.is at is)

pub returns-in-Err-clause-leaves : goal.returns-in-Err-clause-leaves
returns-in-Err-clause-leaves g c = λ items before after borne left.
    let m = rules_at g.R.Runner.meaning c.args.host.now in
    let old = past_in c.args.hand.now in
    let new = past_in c.halt_near.new.hand in
    let grows = c.halt_near.ensures.silent borne in
    let is = left (borne_silent m old new grows borne) in
    leaves_later m items old new c.in-Err.stop before after grows c.halt_near.ensures.lead.hand_of.1.valid.entries
    (rw c.in-Err.is at is)
