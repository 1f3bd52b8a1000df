use Rattle.std.proofs.Common.{ap, ◌∙◌}
use Rattle.std.proofs.lemmas.Result.{err_from_is_err_and}
use Rattle.asp_desk.specs.Calls.{Admits}
use Rattle.asp_desk.specs.Hands.{rules_at}
use Rattle.asp_record.specs.declared.recording.Item.TheVariants as item
use Rattle.asp_feed.specs.Feeding.{clients_after}
use Rattle.asp_replay.specs.Near.{past_in}
use Rattle.asp_replay.proofs.ItemsNear.{admit_near, admit_not, brings_memory}
use Rattle.asp_replay.proofs.Others.{lead_turn, turn_borne}
use Rattle.asp_replay.proofs.bringing.bring_request.Goals as goal

pub returns-in_err-job-clause-near : goal.returns-in_err-job-clause-near
returns-in_err-job-clause-near g c =
    let p = err_from_is_err_and c.from_residual.result c.from_residual.ensures.1 in
    let same = p.2 in
    rw (p.1, same) (brings_memory (rules_at g.R.Runner.meaning c.args.host.now) (past_in c.args.hand.now)
    c.args.clients.now.entries c.args.clients.now.entries
    (item.Request c.args.client c.args.moment c.args.bytes.now))

pub returns-in_err-reserve_one-clause-near : goal.returns-in_err-reserve_one-clause-near
returns-in_err-reserve_one-clause-near g c =
    let p = err_from_is_err_and c.from_residual-in_err-reserve_one.result
    c.from_residual-in_err-reserve_one.ensures.1 in
    let same = p.2 in
    rw (p.1, same) (brings_memory (rules_at g.R.Runner.meaning c.args.host.now) (past_in c.args.hand.now)
    c.args.clients.now.entries c.reserve_one.new.clients.entries
    (item.Request c.args.client c.args.moment c.args.bytes.now))

pub returns-in_err-told-clause-lead : goal.returns-in_err-told-clause-lead
returns-in_err-told-clause-lead g c = lead_turn g.R.Runner.meaning g.R.Runner.stands c.args.host.now
    (Admits (rules_at g.R.Runner.meaning c.args.host.now) c.args.hand.now.lane.number c.in_ok-job.job) c.args.hand.now
    c.admit.new.hand c.admit.result c.requires.lead c.admit.ensures.hand c.admit.ensures.turn

pub returns-in_err-told-clause-near : goal.returns-in_err-told-clause-near
returns-in_err-told-clause-near g c =
    let p = err_from_is_err_and c.from_residual-in_err-told.result c.from_residual-in_err-told.ensures.1 in
    rw p.1 (admit_not (rules_at g.R.Runner.meaning c.args.host.now) c.args.hand.now.lane c.admit.new.hand.lane
    c.requires.lead.own c.requires.lead.number c.admit.ensures.hand.1.valid.entries c.args.client c.args.moment
    c.args.bytes.now c.in_ok-job.job c.in_err-told.field-0.0 p.0 c.in_err-told.ensures.turn p.2
    c.args.clients.now.entries c.reserve_one.new.clients.entries c.in_ok-job.ensures.job c.requires.due)

pub returns-in_err-told-clause-borne : goal.returns-in_err-told-clause-borne
returns-in_err-told-clause-borne g c = turn_borne (rules_at g.R.Runner.meaning c.args.host.now)
    (Admits (rules_at g.R.Runner.meaning c.args.host.now) c.args.hand.now.lane.number c.in_ok-job.job)
    c.args.hand.now.lane c.admit.new.hand.lane c.admit.result c.admit.ensures.turn

pub returns-clause-lead : goal.returns-clause-lead
returns-clause-lead g c = lead_turn g.R.Runner.meaning g.R.Runner.stands c.args.host.now
    (Admits (rules_at g.R.Runner.meaning c.args.host.now) c.args.hand.now.lane.number c.in_ok-job.job) c.args.hand.now
    c.admit.new.hand c.admit.result c.requires.lead c.admit.ensures.hand c.admit.ensures.turn

pub returns-clause-near : goal.returns-clause-near
returns-clause-near g c =
    admit_near (rules_at g.R.Runner.meaning c.args.host.now) c.args.hand.now.lane c.admit.new.hand.lane
    c.requires.lead.own c.requires.lead.number c.admit.ensures.hand.1.valid.entries c.args.client c.args.moment
    c.args.bytes.now c.in_ok-job.job c.in_ok-told.told c.in_ok-told.ensures.turn c.args.clients.now.entries
    c.note.new.clients.entries c.in_ok-job.ensures.job
    (λ what is. c.note.ensures what is ∙ ap (λ entries. clients_after entries c.args.client what)
    c.reserve_one.ensures.same) c.requires.due

pub returns-clause-borne : goal.returns-clause-borne
returns-clause-borne g c = turn_borne (rules_at g.R.Runner.meaning c.args.host.now)
    (Admits (rules_at g.R.Runner.meaning c.args.host.now) c.args.hand.now.lane.number c.in_ok-job.job)
    c.args.hand.now.lane c.admit.new.hand.lane c.admit.result c.admit.ensures.turn
