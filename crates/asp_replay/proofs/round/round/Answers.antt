use Rattle.std.proofs.Common.{Err, Ok}
use Rattle.std.proofs.lemmas.Result.{err_from_is_err_and}
use Rattle.asp_desk.specs.Calls.{Looks}
use Rattle.asp_desk.specs.Hands.{rules_at}
use Rattle.asp_replay.specs.Near.{past_in}
use Rattle.asp_replay.specs.declared.stop.FeedStop.TheVariants as stop
use Rattle.asp_replay.proofs.Others.{lead_turn, turn_borne}
use Rattle.asp_replay.proofs.Quiet.{borne_quiet}
use Rattle.asp_replay.proofs.RoundNear.{look_moment, round_near, seen_by}
use Rattle.asp_replay.proofs.StandsNear.{near_ends}
use Rattle.asp_replay.proofs.round.round.Goals as goal

pub hand_out_near-requires-clause-lead : goal.hand_out_near-requires-clause-lead
hand_out_near-requires-clause-lead g c = lead_turn g.R.Runner.meaning g.R.Runner.stands c.args.host.now
    (Looks (rules_at g.R.Runner.meaning c.args.host.now)) c.args.hand.now c.look-looked.new.hand c.look-looked.result
    c.requires.lead c.look-looked.ensures.hand c.look-looked.ensures.turn

pub hand_out_near-requires-clause-moment : goal.hand_out_near-requires-clause-moment
hand_out_near-requires-clause-moment g c = λ borne. look_moment (rules_at g.R.Runner.meaning c.args.host.now)
    c.args.hand.now.lane c.look-looked.new.hand.lane c.look-looked.result c.look-looked.ensures.turn

pub returns-in_err-hand_out_near-clause-borne : goal.returns-in_err-hand_out_near-clause-borne
returns-in_err-hand_out_near-clause-borne g c = λ borne.
    let m = rules_at g.R.Runner.meaning c.args.host.now in
    let a = c.args.hand.now.lane in
    let b = c.look-looked.new.hand.lane in
    let past = past_in c.hand_out_near.new.hand in
    turn_borne m (Looks m) a b c.look-looked.result c.look-looked.ensures.turn
    (borne_quiet m (past_in c.look-looked.new.hand) past (c.hand_out_near.ensures.near borne).grows borne)

pub returns-in_err-hand_out_near-clause-near : goal.returns-in_err-hand_out_near-clause-near
returns-in_err-hand_out_near-clause-near g c = λ all before borne near.
    let m = rules_at g.R.Runner.meaning c.args.host.now in
    let a = c.args.hand.now.lane in
    let b = c.look-looked.new.hand.lane in
    let past = past_in c.hand_out_near.new.hand in
    let ended = c.in_err-hand_out_near.field-0.0 in
    let p = err_from_is_err_and c.from_residual.result c.from_residual.ensures.1 in
    let same = p.2 in
    rw (p.1, same) (round_near m a b c.look-looked.result c.look-looked.ensures.turn (Err ended) past all c.args.items.now c.args.clients.now.entries
    before (g.K.Sink.held c.args.sink.now) (g.K.Sink.held c.hand_out_near.new.sink) c.requires.lead.own
    c.requires.lead.number c.look-looked.ensures.hand.1.valid.entries borne (c.in_err-hand_out_near.ensures.near borne) near)

pub returns-then-is_met-clause-borne : goal.returns-then-is_met-clause-borne
returns-then-is_met-clause-borne g c = λ borne.
    let m = rules_at g.R.Runner.meaning c.args.host.now in
    let a = c.args.hand.now.lane in
    let b = c.look-looked.new.hand.lane in
    let past = past_in c.hand_out_near.new.hand in
    turn_borne m (Looks m) a b c.look-looked.result c.look-looked.ensures.turn
    (borne_quiet m (past_in c.look-looked.new.hand) past (c.hand_out_near.ensures.near borne).grows borne)

pub returns-then-is_met-clause-near : goal.returns-then-is_met-clause-near
returns-then-is_met-clause-near g c = λ all before borne near.
    let m = rules_at g.R.Runner.meaning c.args.host.now in
    let a = c.args.hand.now.lane in
    let b = c.look-looked.new.hand.lane in
    let past = past_in c.hand_out_near.new.hand in
    near_ends m all before (g.K.Sink.held c.hand_out_near.new.sink) past c.args.clients.now.entries c.args.items.now
    stop.Memory tt
    (round_near m a b c.look-looked.result c.look-looked.ensures.turn (Ok tt) past all c.args.items.now c.args.clients.now.entries
    before (g.K.Sink.held c.args.sink.now) (g.K.Sink.held c.hand_out_near.new.sink) c.requires.lead.own
    c.requires.lead.number c.look-looked.ensures.hand.1.valid.entries borne (c.in_ok-hand_out_near.ensures.near borne) near)

pub act-requires-clause-looked : goal.act-requires-clause-looked
act-requires-clause-looked g c = λ borne.
    let m = rules_at g.R.Runner.meaning c.args.host.now in
    let a = c.args.hand.now.lane in
    let b = c.look-looked.new.hand.lane in
    let past = past_in c.hand_out_near.new.hand in
    seen_by m a b c.look-looked.result c.look-looked.ensures.turn past (c.hand_out_near.ensures.near borne).grows
    (c.in_ok-hand_out_near.ensures.none borne)

pub returns-clause-borne : goal.returns-clause-borne
returns-clause-borne g c = λ borne.
    let m = rules_at g.R.Runner.meaning c.args.host.now in
    let a = c.args.hand.now.lane in
    let b = c.look-looked.new.hand.lane in
    let past = past_in c.hand_out_near.new.hand in
    let there = c.act.ensures.borne borne in
    turn_borne m (Looks m) a b c.look-looked.result c.look-looked.ensures.turn
    (borne_quiet m (past_in c.look-looked.new.hand) past (c.hand_out_near.ensures.near there).grows there)

pub returns-clause-near : goal.returns-clause-near
returns-clause-near g c = λ all before borne near.
    let m = rules_at g.R.Runner.meaning c.args.host.now in
    let a = c.args.hand.now.lane in
    let b = c.look-looked.new.hand.lane in
    let past = past_in c.hand_out_near.new.hand in
    let there = c.act.ensures.borne borne in
    c.act.ensures.near all before (g.K.Sink.held c.hand_out_near.new.sink) borne
    (round_near m a b c.look-looked.result c.look-looked.ensures.turn (Ok tt) past all c.args.items.now c.args.clients.now.entries
    before (g.K.Sink.held c.args.sink.now) (g.K.Sink.held c.hand_out_near.new.sink) c.requires.lead.own
    c.requires.lead.number c.look-looked.ensures.hand.1.valid.entries there (c.in_ok-hand_out_near.ensures.near there) near)
