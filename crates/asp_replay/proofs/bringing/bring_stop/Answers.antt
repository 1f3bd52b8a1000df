use Rattle.std.proofs.lemmas.Result.{err_from_is_err_and}
use Rattle.asp_desk.specs.Calls.{Stops}
use Rattle.asp_desk.specs.Hands.{rules_at}
use Rattle.asp_replay.proofs.Others.{lead_turn, turn_borne}
use Rattle.asp_replay.proofs.StopNear.{stop_near, stop_not}
use Rattle.asp_replay.proofs.bringing.bring_stop.Goals as goal

pub returns-in_err-stop-clause-lead : goal.returns-in_err-stop-clause-lead
returns-in_err-stop-clause-lead g c = lead_turn g.R.Runner.meaning g.R.Runner.stands c.args.host.now
    (Stops (rules_at g.R.Runner.meaning c.args.host.now) c.args.hand.now.lane.number) c.args.hand.now
    c.stop.new.hand c.stop.result c.requires.lead c.stop.ensures.hand c.stop.ensures.turn

pub returns-in_err-stop-clause-near : goal.returns-in_err-stop-clause-near
returns-in_err-stop-clause-near g c = λ items clients before held borne near.
    let p = err_from_is_err_and c.from_residual.result c.from_residual.ensures.1 in
    rw p.1 (stop_not (rules_at g.R.Runner.meaning c.args.host.now) c.args.hand.now.lane c.stop.new.hand.lane
    c.requires.lead.own c.requires.lead.number c.stop.ensures.hand.1.valid.entries c.requires.calm items clients before
    held borne near c.in_err-stop.field-0.0 p.0 c.in_err-stop.ensures.turn p.2)

pub returns-in_err-stop-clause-borne : goal.returns-in_err-stop-clause-borne
returns-in_err-stop-clause-borne g c = turn_borne (rules_at g.R.Runner.meaning c.args.host.now)
    (Stops (rules_at g.R.Runner.meaning c.args.host.now) c.args.hand.now.lane.number)
    c.args.hand.now.lane c.stop.new.hand.lane c.stop.result c.stop.ensures.turn

pub returns-clause-lead : goal.returns-clause-lead
returns-clause-lead g c = lead_turn g.R.Runner.meaning g.R.Runner.stands c.args.host.now
    (Stops (rules_at g.R.Runner.meaning c.args.host.now) c.args.hand.now.lane.number) c.args.hand.now
    c.stop.new.hand c.stop.result c.requires.lead c.stop.ensures.hand c.stop.ensures.turn

pub returns-clause-near : goal.returns-clause-near
returns-clause-near g c = λ items clients before held borne near.
    stop_near (rules_at g.R.Runner.meaning c.args.host.now) c.args.hand.now.lane c.stop.new.hand.lane
    c.requires.lead.own c.requires.lead.number c.stop.ensures.hand.1.valid.entries c.requires.calm items clients before
    held borne near c.in_ok-stop.ensures.turn

pub returns-clause-borne : goal.returns-clause-borne
returns-clause-borne g c = turn_borne (rules_at g.R.Runner.meaning c.args.host.now)
    (Stops (rules_at g.R.Runner.meaning c.args.host.now) c.args.hand.now.lane.number)
    c.args.hand.now.lane c.stop.new.hand.lane c.stop.result c.stop.ensures.turn
