use Rattle.std.proofs.Common.{ℕ}
use Rattle.asp_desk.specs.Hands.{rules_at}
use Rattle.asp_job.specs.declared.answer.Answer.{Answer}
use Rattle.asp_replay.specs.Near.{past_in}
use Rattle.asp_replay.proofs.Quiet.{borne_quiet}
use Rattle.asp_replay.proofs.TakenNear.{stays_ended, stays_taken, stays_worked, taken_quiet}
use Rattle.asp_replay.proofs.near.out_round.Goals as goal

pub returns-in-None-clause-near : goal.returns-in-None-clause-near
returns-in-None-clause-near g c = λ borne.
    stays_worked tt (rules_at g.R.Runner.meaning c.args.host.now) (past_in c.args.hand.now)
    (past_in c.first_out.new.hand) (g.K.Sink.held c.args.sink.now) (c.in-None.ensures.none borne).0
    c.first_out.ensures.lead.hand_of.1.valid.entries borne

pub returns-in-None-clause-none : goal.returns-in-None-clause-none
returns-in-None-clause-none g c = λ borne. (c.in-None.ensures.none borne).1

pub returns-in-Ok-clause-near : goal.returns-in-Ok-clause-near
returns-in-Ok-clause-near g c = λ borne.
    let m = rules_at g.R.Runner.meaning c.args.host.now in
    let old = past_in c.args.hand.now in
    let new = past_in c.first_out.new.hand in
    let first : ℕ × Answer = (c.in-Some.run', c.in-Some.answer) in
    let has = c.in-Some.ensures.some borne in
    stays_taken m old new (g.K.Sink.held c.args.sink.now) (g.K.Sink.held c.write_record.new.sink) first c.args.moment
    has c.first_out.ensures.lead.hand_of.1.valid.entries borne
    (c.requires.moment (borne_quiet m old new (taken_quiet m old new first has) borne)) c.in-Ok.ensures.wrote

pub returns-clause-near : goal.returns-clause-near
returns-clause-near g c = λ borne.
    let m = rules_at g.R.Runner.meaning c.args.host.now in
    let old = past_in c.args.hand.now in
    let new = past_in c.first_out.new.hand in
    let first : ℕ × Answer = (c.in-Some.run', c.in-Some.answer) in
    let has = c.in-Some.ensures.some borne in
    stays_ended m old new (g.K.Sink.held c.args.sink.now) (g.K.Sink.held c.write_record.new.sink) first c.args.moment
    has c.first_out.ensures.lead.hand_of.1.valid.entries borne
    (c.requires.moment (borne_quiet m old new (taken_quiet m old new first has) borne)) c.in-Err.stop
    c.in-Err.ensures.wrote
