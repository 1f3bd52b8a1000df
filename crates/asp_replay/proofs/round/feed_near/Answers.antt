use Rattle.std.proofs.Common.{◌≡◌, ◌∙◌, Err, ap, arith, subst, sym}
use Rattle.asp_replay.specs.declared.stop.FeedStop.TheVariants as stop
use Rattle.asp_desk.specs.Hands.{rules_at}
use Rattle.asp_record.specs.Recorded as recorded
use Rattle.asp_replay.specs.Near.{IsNear, past_in}
use Rattle.asp_replay.proofs.round.feed_near.Goals as goal

pub loop-init : goal.loop-init
loop-init g c = (
  c.requires.lead,
  (0, subst (recorded.AreItems 0) (sym c.as_slice-items.ensures) c.requires.sound.items),
  λ before borne near. subst (λ left. IsNear (rules_at g.R.Runner.meaning c.args.host.now)
      c.args.recording.now.items (past_in c.args.hand.now) c.args.clients.now.entries left before
      (g.K.Sink.held c.args.sink.now)) (sym c.as_slice-items.ensures) near,
  omega arith,
  λ below. below,
  λ borne. borne,
)

pub round-requires-clause-lead : goal.round-requires-clause-lead
round-requires-clause-lead g c = c.loop.invariant.0

pub round-requires-clause-items : goal.round-requires-clause-items
round-requires-clause-items g c = c.loop.invariant.1

pub loop-preserved : goal.loop-preserved
loop-preserved g c =
    let cause = c.round.ensures.cause in
    let items = rw c.in-Ok-Some.field-0-is at c.in-Ok-Some.ensures.items in
    let near = rw c.in-Ok-Some.field-0-is at c.in-Ok-Some.ensures.near in (
      c.round.ensures.lead,
      items,
      λ before borne is. near c.args.recording.now.items before borne
          (c.loop.invariant.2 before (c.round.ensures.borne borne) is),
      omega (arith, cause.later, c.loop.invariant.3),
      λ below. cause.within (c.loop.invariant.4 below),
      λ borne. c.loop.invariant.5 (c.round.ensures.borne borne),
    )

pub returns-in-Ok-None-clause-free : goal.returns-in-Ok-None-clause-free
returns-in-Ok-None-clause-free g c = rw c.in-Ok-None.field-0-is at c.in-Ok-None.ensures.free

pub returns-in-Ok-None-clause-near : goal.returns-in-Ok-None-clause-near
returns-in-Ok-None-clause-near g c = λ before borne is.
    (rw c.in-Ok-None.field-0-is at c.in-Ok-None.ensures.near) c.args.recording.now.items before borne
    (c.loop.invariant.2 before (c.round.ensures.borne borne) is)

pub returns-in-Ok-None-clause-cause : goal.returns-in-Ok-None-clause-cause
returns-in-Ok-None-clause-cause g c =
    let cause = c.round.ensures.cause in
    record {
      later = omega (arith, cause.later, c.loop.invariant.3);
      within = λ below. cause.within (c.loop.invariant.4 below);
      failed = λ e. absurd cc;
    }

pub returns-in-Err-clause-near : goal.returns-in-Err-clause-near
returns-in-Err-clause-near g c = λ before borne is.
    c.in-Err.ensures.near c.args.recording.now.items before borne
    (c.loop.invariant.2 before (c.round.ensures.borne borne) is)

pub returns-in-Err-clause-cause : goal.returns-in-Err-clause-cause
returns-in-Err-clause-cause g c =
    let cause = c.round.ensures.cause in
    record {
      later = omega (arith, cause.later, c.loop.invariant.3);
      within = λ below. cause.within (c.loop.invariant.4 below);
      failed = λ e. (let same : c.in-Err.stop ≡ stop.WriteFault = cc in
          let risen = cause.failed (c.in-Err.is ∙ ap Err same) in omega (arith, risen, c.loop.invariant.3));
    }

pub returns-in-Ok-None-clause-borne : goal.returns-in-Ok-None-clause-borne
returns-in-Ok-None-clause-borne g c = λ borne. c.loop.invariant.5 (c.round.ensures.borne borne)

pub returns-in-Err-clause-borne : goal.returns-in-Err-clause-borne
returns-in-Err-clause-borne g c = λ borne. c.loop.invariant.5 (c.round.ensures.borne borne)
