use Rattle.std.proofs.Common.{◌∙◌, Ok, arith, refl, sym}
use Rattle.asp_desk.specs.Hands.{rules_at}
use Rattle.asp_replay.specs.Near.{past_in}
use Rattle.asp_replay.proofs.Quiet.{borne_quiet}
use Rattle.asp_replay.proofs.TakenNear.{quiet_moment, stays_none, stays_then}
use Rattle.asp_replay.proofs.near.hand_out_near.Goals as goal

pub loop-init : goal.loop-init
loop-init g c = (
  c.requires.lead,
  refl,
  λ borne. stays_none (rules_at g.R.Runner.meaning c.args.host.now) (past_in c.args.hand.now)
      (g.K.Sink.held c.args.sink.now),
  omega arith,
  λ below. below,
)

pub out_round-requires-clause-lead : goal.out_round-requires-clause-lead
out_round-requires-clause-lead g c = c.loop.invariant.0

pub out_round-requires-clause-moment : goal.out_round-requires-clause-moment
out_round-requires-clause-moment g c = λ borne.
    let m = rules_at g.R.Runner.meaning c.args.host.now in
    let old = past_in c.args.hand.now in
    let mid = past_in c.loop.hand in
    let grows = (c.loop.invariant.2 borne).grows in
    c.requires.moment (borne_quiet m old mid grows borne) ∙ sym (quiet_moment old mid grows)

pub loop-preserved : goal.loop-preserved
loop-preserved g c =
    let m = rules_at g.R.Runner.meaning c.args.host.now in
    let old = past_in c.args.hand.now in
    let mid = past_in c.loop.hand in
    let new = past_in c.out_round.new.hand in
    let near = rw c.in_default.is at c.out_round.ensures.near in
    let cause = rw c.in_default.is at c.out_round.ensures.cause in (
      c.out_round.ensures.lead,
      c.out_round.ensures.run ∙ c.loop.invariant.1,
      λ borne. (let one = near borne in
          stays_then tt (Ok tt) m old mid new (g.K.Sink.held c.args.sink.now) (g.K.Sink.held c.loop.sink)
          (g.K.Sink.held c.out_round.new.sink) (c.loop.invariant.2 (borne_quiet m mid new one.grows borne)) one),
      omega (arith, cause.later, c.loop.invariant.3),
      λ below. cause.within (c.loop.invariant.4 below),
    )

pub returns-in-Some-out_round-clause-run : goal.returns-in-Some-out_round-clause-run
returns-in-Some-out_round-clause-run g c = c.out_round.ensures.run ∙ c.loop.invariant.1

pub returns-in-Some-out_round-clause-near : goal.returns-in-Some-out_round-clause-near
returns-in-Some-out_round-clause-near g c = λ borne.
    let m = rules_at g.R.Runner.meaning c.args.host.now in
    let old = past_in c.args.hand.now in
    let mid = past_in c.loop.hand in
    let new = past_in c.out_round.new.hand in
    let one = (rw c.in-Some-out_round.is at c.out_round.ensures.near) borne in
    stays_then tt c.in-Some-out_round.ended m old mid new (g.K.Sink.held c.args.sink.now) (g.K.Sink.held c.loop.sink)
    (g.K.Sink.held c.out_round.new.sink) (c.loop.invariant.2 (borne_quiet m mid new one.grows borne)) one

pub returns-in-Some-out_round-clause-none : goal.returns-in-Some-out_round-clause-none
returns-in-Some-out_round-clause-none g c = rw c.in-Some-out_round.is at c.out_round.ensures.none

pub returns-in-Some-out_round-clause-cause : goal.returns-in-Some-out_round-clause-cause
returns-in-Some-out_round-clause-cause g c =
    let cause = rw c.in-Some-out_round.is at c.out_round.ensures.cause in
    record {
      later = omega (arith, cause.later, c.loop.invariant.3);
      within = λ below. cause.within (c.loop.invariant.4 below);
      failed = λ e. (let risen = cause.failed e in omega (arith, risen, c.loop.invariant.3));
    }
