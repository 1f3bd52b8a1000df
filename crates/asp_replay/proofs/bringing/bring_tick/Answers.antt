use Rattle.std.proofs.lemmas.Result.{err_from_is_err_and}
use Rattle.asp_desk.specs.Calls.{Ticks}
use Rattle.asp_desk.specs.Hands.{rules_at}
use Rattle.asp_replay.proofs.ItemsNear.{tick_near, tick_not}
use Rattle.asp_replay.proofs.Others.{lead_turn, turn_borne}
use Rattle.asp_replay.proofs.bringing.bring_tick.Goals as goal

pub returns-in_err-tick-clause-lead : goal.returns-in_err-tick-clause-lead
returns-in_err-tick-clause-lead g c = lead_turn g.R.Runner.meaning g.R.Runner.stands c.args.host.now
    (Ticks (rules_at g.R.Runner.meaning c.args.host.now) c.args.hand.now.lane.number c.args.moment) c.args.hand.now
    c.tick.new.hand c.tick.result c.requires.lead c.tick.ensures.hand c.tick.ensures.turn

pub returns-in_err-tick-clause-near : goal.returns-in_err-tick-clause-near
returns-in_err-tick-clause-near g c = λ clients.
    let p = err_from_is_err_and c.from_residual.result c.from_residual.ensures.1 in
    rw p.1 (tick_not (rules_at g.R.Runner.meaning c.args.host.now) c.args.hand.now.lane c.tick.new.hand.lane
    c.requires.lead.own c.requires.lead.number c.tick.ensures.hand.1.valid.entries c.args.moment
    c.in_err-tick.field-0.0 p.0 c.in_err-tick.ensures.turn p.2 c.requires.due clients)

pub returns-in_err-tick-clause-borne : goal.returns-in_err-tick-clause-borne
returns-in_err-tick-clause-borne g c = turn_borne (rules_at g.R.Runner.meaning c.args.host.now)
    (Ticks (rules_at g.R.Runner.meaning c.args.host.now) c.args.hand.now.lane.number c.args.moment)
    c.args.hand.now.lane c.tick.new.hand.lane c.tick.result c.tick.ensures.turn

pub returns-clause-lead : goal.returns-clause-lead
returns-clause-lead g c = lead_turn g.R.Runner.meaning g.R.Runner.stands c.args.host.now
    (Ticks (rules_at g.R.Runner.meaning c.args.host.now) c.args.hand.now.lane.number c.args.moment) c.args.hand.now
    c.tick.new.hand c.tick.result c.requires.lead c.tick.ensures.hand c.tick.ensures.turn

pub returns-clause-near : goal.returns-clause-near
returns-clause-near g c = λ clients.
    tick_near (rules_at g.R.Runner.meaning c.args.host.now) c.args.hand.now.lane c.tick.new.hand.lane
    c.requires.lead.own c.requires.lead.number c.tick.ensures.hand.1.valid.entries c.args.moment _
    c.in_ok-tick.ensures.turn c.requires.due clients

pub returns-clause-borne : goal.returns-clause-borne
returns-clause-borne g c = turn_borne (rules_at g.R.Runner.meaning c.args.host.now)
    (Ticks (rules_at g.R.Runner.meaning c.args.host.now) c.args.hand.now.lane.number c.args.moment)
    c.args.hand.now.lane c.tick.new.hand.lane c.tick.result c.tick.ensures.turn
