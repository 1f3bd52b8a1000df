use Rattle.std.proofs.Common.{◌≡◌, None, true, subst}
use Rattle.std.proofs.lemmas.Result.{err_from_is_err_and}
use Rattle.asp_desk.specs.Hands.{rules_at}
use Rattle.asp_record.specs.Recorded as recorded
use Rattle.asp_replay.specs.Near.{IsNear, calm_by, may_by, past_in}
use Rattle.asp_replay.proofs.OneTurn.{nothing_is}
use Rattle.asp_replay.proofs.Quiet.{borne_quiet}
use Rattle.asp_replay.proofs.RoundNear.{all_fed, calm_seen, due_seen}
use Rattle.asp_replay.proofs.round.act.Goals as goal

pub bring-requires-clause-held : goal.bring-requires-clause-held
bring-requires-clause-held g c =
    (subst (recorded.AreItems c.requires.items.0) c.in-Some.ensures.cases.0 c.requires.items.1).0.held

pub bring-requires-clause-due : goal.bring-requires-clause-due
bring-requires-clause-due g c = λ borne.
    let may : may_by c.args.looked.now c.moment_of.result ≡ true = (let told = c.may_come.ensures in
    let test = c.if-may_come.true in cc) in
    due_seen (rules_at g.R.Runner.meaning c.args.host.now) c.args.looked.now (past_in c.args.hand.now)
    (c.requires.looked borne) c.requires.lead.hand_of.1.valid.entries (recorded.moment_of c.in-Some.next.now)
    (subst (λ n. may_by c.args.looked.now n ≡ true) c.moment_of.ensures may)

pub returns-in_err-bring-in-Some-clause-near : goal.returns-in_err-bring-in-Some-clause-near
returns-in_err-bring-in-Some-clause-near g c = λ all before held borne near.
    let p = err_from_is_err_and c.from_residual.result c.from_residual.ensures.1 in
    let same = p.2 in
    rw (p.1, same) (c.in_err-bring-in-Some.ensures.near all c.in-Some.rest.now before held borne
    (subst (λ left. IsNear (rules_at g.R.Runner.meaning c.args.host.now) all (past_in c.args.hand.now)
    c.args.clients.now.entries left before held) c.in-Some.ensures.cases.0 near))

pub returns-then-is_done-clause-near : goal.returns-then-is_done-clause-near
returns-then-is_done-clause-near g c = λ all before held borne near.
    let calm : calm_by c.args.looked.now ≡ true = (let told = c.is_calm.ensures in
    let test = c.if-is_calm.true in cc) in
    all_fed (rules_at g.R.Runner.meaning c.args.host.now) c.args.looked.now (past_in c.args.hand.now) (c.requires.looked borne)
    c.requires.lead.hand_of.1.valid.entries all c.args.clients.now.entries before held
    (c.is_done.ensures.stopping c.if-is_done.true) calm
    (subst (λ left. IsNear (rules_at g.R.Runner.meaning c.args.host.now) all (past_in c.args.hand.now) c.args.clients.now.entries left before held)
    (nothing_is c.args.items.now c.in-None.ensures.cases) near)

pub bring_stop-requires-clause-calm : goal.bring_stop-requires-clause-calm
bring_stop-requires-clause-calm g c = λ borne.
    let calm : calm_by c.args.looked.now ≡ true = (let told = c.is_calm.ensures in
    let test = c.if-is_calm.true in cc) in
    calm_seen (rules_at g.R.Runner.meaning c.args.host.now) c.args.looked.now (past_in c.args.hand.now) (c.requires.looked borne)
    c.requires.lead.hand_of.1.valid.entries calm

pub returns-in_err-bring_stop-in-None-clause-near : goal.returns-in_err-bring_stop-in-None-clause-near
returns-in_err-bring_stop-in-None-clause-near g c = λ all before held borne near.
    let p = err_from_is_err_and c.from_residual-in_err-bring_stop-in-None.result
    c.from_residual-in_err-bring_stop-in-None.ensures.1 in
    let same = p.2 in
    rw (p.1, same) (c.in_err-bring_stop-in-None.ensures.near all c.args.clients.now.entries before held borne
    (subst (λ left. IsNear (rules_at g.R.Runner.meaning c.args.host.now) all (past_in c.args.hand.now) c.args.clients.now.entries left before held)
    (nothing_is c.args.items.now c.in-None.ensures.cases) near))

pub returns-in_err-work_near-in_default-clause-borne : goal.returns-in_err-work_near-in_default-clause-borne
returns-in_err-work_near-in_default-clause-borne g c = λ borne.
    borne_quiet (rules_at g.R.Runner.meaning c.args.host.now) (past_in c.args.hand.now) (past_in c.work_near.new.hand)
    (c.in_err-work_near-in_default.ensures.near None borne).grows borne

pub returns-in_err-work_near-in_default-clause-near : goal.returns-in_err-work_near-in_default-clause-near
returns-in_err-work_near-in_default-clause-near g c = λ all before held borne near.
    let p = err_from_is_err_and c.from_residual-in_err-work_near-in_default.result
    c.from_residual-in_err-work_near-in_default.ensures.1 in
    let same = p.2 in
    rw (p.1, same) ((c.in_err-work_near-in_default.ensures.near held borne).near all c.args.items.now
    c.args.clients.now.entries before near)

pub returns-after-not-branch-clause-borne : goal.returns-after-not-branch-clause-borne
returns-after-not-branch-clause-borne g c = λ borne.
    borne_quiet (rules_at g.R.Runner.meaning c.args.host.now) (past_in c.args.hand.now) (past_in c.work_near.new.hand)
    (c.in_ok-work_near-in_default.ensures.near None borne).grows borne

pub returns-after-not-branch-clause-near : goal.returns-after-not-branch-clause-near
returns-after-not-branch-clause-near g c = λ all before held borne near.
    (c.in_ok-work_near-in_default.ensures.near held borne).near all c.args.items.now c.args.clients.now.entries before near
