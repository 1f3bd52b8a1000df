use Rattle.std.proofs.Common.{◌≡◌, [], arith, subst, sym, true}
use Rattle.asp_core.specs.Kernel.{past_of, rules_of}
use Rattle.asp_lane.proofs.Started.{started_grown}
use Rattle.asp_lane.specs.Started.{HasStarted}
use Rattle.asp_replay.specs.declared.stop.FeedStop.TheVariants as stop
use Rattle.asp_replay.specs.Underway.{AfterTurn, EndsSo, IsUnderWay, is_over}
use Rattle.asp_replay.proofs.Grown.{ends_here}
use Rattle.asp_replay.proofs.Starting.{grown_more, grown_none, host_grown, rules_grown, under_rules}
use Rattle.asp_replay.proofs.WholeFeed.{over_fed}
use Rattle.asp_replay.proofs.feeding.feed_items.Goals as goal

pub loop-init : goal.loop-init
loop-init g c = record {
  grows = ([], grown_none c.args.core.now);
  fits = c.requires.hand;
  started = c.requires.started;
  under = λ before is. subst (λ left. IsUnderWay (rules_of g.R.Runner.meaning c.args.core.now)
      c.args.recording.now.items (past_of c.args.core.now) c.args.clients.now.entries left before
      (g.K.Sink.held c.args.sink.now)) (sym c.as_slice-items.ensures) is;
  later = omega arith;
  within = λ below. below;
}

pub returns-then-is_over-clause-grows : goal.returns-then-is_over-clause-grows
returns-then-is_over-clause-grows g c = c.loop.invariant.grows

pub returns-then-is_over-clause-after : goal.returns-then-is_over-clause-after
returns-then-is_over-clause-after g c = λ before is.
    let over : is_over (past_of c.loop.core) c.loop.items.now ≡ true = (let told = c.is_over.ensures in
    let test = c.if-is_over.true in let one = c.if-is_over.ensures in cc) in
    over_fed (rules_of g.R.Runner.meaning c.args.core.now) c.args.recording.now.items (past_of c.loop.core)
    c.loop.clients.entries c.loop.items.now before (g.K.Sink.held c.loop.sink) over c.loop.invariant.started
    (c.loop.invariant.under before is)

pub turn-next-requires-clause-host : goal.turn-next-requires-clause-host
turn-next-requires-clause-host g c =
    host_grown c.args.core.now c.loop.core c.loop.invariant.grows.0 c.args.runner.now c.args.site.now
    c.loop.invariant.grows.1 c.requires.host

pub turn-next-requires-clause-hand : goal.turn-next-requires-clause-hand
turn-next-requires-clause-hand g c = c.loop.invariant.fits

pub turn-next-requires-clause-started : goal.turn-next-requires-clause-started
turn-next-requires-clause-started g c =
    let meaning = g.R.Runner.meaning in
    let same = rules_grown meaning c.args.core.now c.loop.core c.loop.invariant.grows.0 c.loop.invariant.grows.1 in
    subst (λ m. HasStarted m (past_of c.loop.core)) (sym same) c.loop.invariant.started

pub turn-next-requires-clause-going : goal.turn-next-requires-clause-going
turn-next-requires-clause-going g c =
    let told = c.is_over.ensures in let test = c.if-is_over.false in cc

pub turn-next-requires-clause-under : goal.turn-next-requires-clause-under
turn-next-requires-clause-under g c =
    let meaning = g.R.Runner.meaning in
    let same = rules_grown meaning c.args.core.now c.loop.core c.loop.invariant.grows.0 c.loop.invariant.grows.1 in
    let is = c.loop.invariant.under c.requires.under.0 c.requires.under.1 in (
      c.args.recording.now.items,
      c.requires.under.0,
      under_rules (rules_of meaning c.args.core.now) (rules_of meaning c.loop.core) c.args.recording.now.items
          c.loop.items.now (past_of c.loop.core) c.loop.clients.entries c.requires.under.0 (g.K.Sink.held c.loop.sink)
          (sym same) is,
    )

pub returns-in-Err-clause-grows : goal.returns-in-Err-clause-grows
returns-in-Err-clause-grows g c =
    grown_more c.args.core.now c.loop.core c.turn-next.new.core c.loop.invariant.grows c.turn-next.ensures.grows

pub returns-in-Err-clause-after : goal.returns-in-Err-clause-after
returns-in-Err-clause-after g c = λ before is.
    let meaning = g.R.Runner.meaning in
    let same = rules_grown meaning c.args.core.now c.loop.core c.loop.invariant.grows.0 c.loop.invariant.grows.1 in
    let now = under_rules (rules_of meaning c.args.core.now) (rules_of meaning c.loop.core)
    c.args.recording.now.items c.loop.items.now (past_of c.loop.core) c.loop.clients.entries before
    (g.K.Sink.held c.loop.sink) (sym same) (c.loop.invariant.under before is) in
    let ends = subst (λ came. AfterTurn came (rules_of meaning c.loop.core) c.args.recording.now.items
    (past_of c.turn-next.new.core) c.turn-next.new.clients.entries before (g.K.Sink.held c.turn-next.new.sink))
    c.in-Err.is (c.turn-next.ensures.after c.args.recording.now.items before now) in
    subst (λ m. EndsSo m c.args.recording.now.items (past_of c.turn-next.new.core) c.in-Err.stop before
    (g.K.Sink.held c.turn-next.new.sink)) same ends

pub loop-preserved : goal.loop-preserved
loop-preserved g c =
    let meaning = g.R.Runner.meaning in
    let same = rules_grown meaning c.args.core.now c.loop.core c.loop.invariant.grows.0 c.loop.invariant.grows.1 in
    let cause = c.turn-next.ensures.cause in
    let later = c.loop.invariant.later in
    record {
      grows = grown_more c.args.core.now c.loop.core c.turn-next.new.core c.loop.invariant.grows c.turn-next.ensures.grows;
      fits = c.turn-next.ensures.fits;
      started = started_grown meaning c.args.core.now c.turn-next.new.core (grown_more c.args.core.now c.loop.core
          c.turn-next.new.core c.loop.invariant.grows c.turn-next.ensures.grows) c.journal.ensures.valid
          c.requires.started;
      under = λ before is.
          let now = under_rules (rules_of meaning c.args.core.now) (rules_of meaning c.loop.core)
          c.args.recording.now.items c.loop.items.now (past_of c.loop.core) c.loop.clients.entries before
          (g.K.Sink.held c.loop.sink) (sym same) (c.loop.invariant.under before is) in
          under_rules (rules_of meaning c.loop.core) (rules_of meaning c.args.core.now) c.args.recording.now.items
          c.in-Ok.left.now (past_of c.turn-next.new.core) c.turn-next.new.clients.entries before
          (g.K.Sink.held c.turn-next.new.sink) same
          (subst (λ came. AfterTurn came (rules_of meaning c.loop.core) c.args.recording.now.items
          (past_of c.turn-next.new.core) c.turn-next.new.clients.entries before (g.K.Sink.held c.turn-next.new.sink))
          c.in-Ok.is (c.turn-next.ensures.after c.args.recording.now.items before now));
      later = omega (arith, later, cause.later);
      within = λ below. cause.within (c.loop.invariant.within below);
    }

pub returns-clause-grows : goal.returns-clause-grows
returns-clause-grows g c = c.loop.invariant.grows

pub returns-clause-after : goal.returns-clause-after
returns-clause-after g c = λ before is.
    ends_here (rules_of g.R.Runner.meaning c.args.core.now) c.args.recording.now.items (past_of c.loop.core)
    c.loop.clients.entries c.loop.items.now before (g.K.Sink.held c.loop.sink) stop.Memory
    (c.loop.invariant.under before is) tt
