use Rattle.std.proofs.Common.{Err, OnOk, ap, inl, inr, reverse, subst, sym, ◌∙◌}
use Rattle.asp_core.specs.Kernel.{past_of, rules_of}
use Rattle.asp_job.specs.Runs.{unfinished}
use Rattle.asp_lane.proofs.Started.{started_grown}
use Rattle.asp_lane.specs.Started.{HasStarted}
use Rattle.asp_feed.specs.Feeding.{events_of}
use Rattle.asp_replay.specs.Feed.{IsPassed}
use Rattle.asp_replay.specs.Underway.{After, AfterAll}
use Rattle.asp_replay.proofs.FirstPlace.{core_under}
use Rattle.asp_replay.proofs.Starting.{grown_more, host_grown, on_err, rules_grown, under_rules}
use Rattle.asp_replay.proofs.feeding.feed_host.Goals as goal

pub start-hand-requires-clause-hand : goal.start-hand-requires-clause-hand
start-hand-requires-clause-hand g c = ap (λ journal. unfinished (reverse journal)) c.requires.first

pub start-hand-requires-clause-between : goal.start-hand-requires-clause-between
start-hand-requires-clause-between g c = (
  c.args.recording.now.items,
  c.args.recording.now.items,
  c.args.clients.now.entries,
  g.K.Sink.held c.args.sink.now,
  core_under (rules_of g.R.Runner.meaning c.args.core.now) c.args.core.now c.args.clients.now.entries
      c.args.recording.now.items (g.K.Sink.held c.args.sink.now) c.requires.first c.requires.none
      c.requires.sound.items,
)

pub start-hand-requires-clause-none_came : goal.start-hand-requires-clause-none_came
start-hand-requires-clause-none_came g c = ap (λ journal. events_of (reverse journal)) c.requires.first

pub feed_items-fed-requires-clause-host : goal.feed_items-fed-requires-clause-host
feed_items-fed-requires-clause-host g c =
    host_grown c.args.core.now c.start-hand.new.core c.start-hand.ensures.grows.0 c.args.runner.now c.args.site.now
    c.start-hand.ensures.grows.1 c.requires.host

pub feed_items-fed-requires-clause-started : goal.feed_items-fed-requires-clause-started
feed_items-fed-requires-clause-started g c =
    let same = rules_grown g.R.Runner.meaning c.args.core.now c.start-hand.new.core c.start-hand.ensures.grows.0
    c.start-hand.ensures.grows.1 in
    subst (λ m. HasStarted m (past_of c.start-hand.new.core)) (sym same)
    (subst (λ begun. OnOk begun (HasStarted (rules_of g.R.Runner.meaning c.args.core.now)
    (past_of c.start-hand.new.core))) c.in-Ok.is c.start-hand.ensures.started)

pub feed_items-fed-requires-clause-under : goal.feed_items-fed-requires-clause-under
feed_items-fed-requires-clause-under g c =
    let meaning = g.R.Runner.meaning in
    let items = c.args.recording.now.items in
    let held = g.K.Sink.held c.args.sink.now in
    let same = rules_grown meaning c.args.core.now c.start-hand.new.core c.start-hand.ensures.grows.0
    c.start-hand.ensures.grows.1 in
    let first = core_under (rules_of meaning c.args.core.now) c.args.core.now c.args.clients.now.entries items held
    c.requires.first c.requires.none c.requires.sound.items in (
      held,
      under_rules (rules_of meaning c.args.core.now) (rules_of meaning c.start-hand.new.core) items items
          (past_of c.start-hand.new.core) c.args.clients.now.entries held (g.K.Sink.held c.start-hand.new.sink) (sym same)
          (subst (λ begun. After begun (rules_of meaning c.args.core.now) items
          (past_of c.start-hand.new.core) c.args.clients.now.entries items held (g.K.Sink.held c.start-hand.new.sink))
          c.in-Ok.is (c.start-hand.ensures.after items items c.args.clients.now.entries held first)),
    )

pub returns-in-Ok-clause-grows : goal.returns-in-Ok-clause-grows
returns-in-Ok-clause-grows g c =
    grown_more c.args.core.now c.start-hand.new.core c.feed_items-fed.new.core c.start-hand.ensures.grows
    c.feed_items-fed.ensures.grows

pub returns-in-Ok-clause-passed : goal.returns-in-Ok-clause-passed
returns-in-Ok-clause-passed g c =
    let meaning = g.R.Runner.meaning in
    let begun = subst (λ begun. OnOk begun (HasStarted (rules_of meaning c.args.core.now)
    (past_of c.start-hand.new.core))) c.in-Ok.is c.start-hand.ensures.started in
    let same = rules_grown meaning c.args.core.now c.start-hand.new.core c.start-hand.ensures.grows.0
    c.start-hand.ensures.grows.1 in
    let still = started_grown meaning c.start-hand.new.core c.feed_items-fed.new.core c.feed_items-fed.ensures.grows
    c.journal.ensures.valid (subst (λ m. HasStarted m (past_of c.start-hand.new.core)) (sym same) begun) in
    on_err c.feed_items-fed.result.1 (IsPassed (rules_of meaning c.args.core.now) (past_of c.feed_items-fed.new.core))
    (λ ended. inl (subst (λ m. HasStarted m (past_of c.feed_items-fed.new.core)) same still))

pub returns-in-Err-clause-passed : goal.returns-in-Err-clause-passed
returns-in-Err-clause-passed g c =
    inr (c.start-hand.ensures.none_came, λ e. c.start-hand.ensures.no_fault (c.in-Err.is ∙ ap Err e))

pub returns-in-Ok-clause-after : goal.returns-in-Ok-clause-after
returns-in-Ok-clause-after g c =
    let meaning = g.R.Runner.meaning in
    let items = c.args.recording.now.items in
    let held = g.K.Sink.held c.args.sink.now in
    let same = rules_grown meaning c.args.core.now c.start-hand.new.core c.start-hand.ensures.grows.0
    c.start-hand.ensures.grows.1 in
    let first = core_under (rules_of meaning c.args.core.now) c.args.core.now c.args.clients.now.entries items held
    c.requires.first c.requires.none c.requires.sound.items in
    let now = under_rules (rules_of meaning c.args.core.now) (rules_of meaning c.start-hand.new.core) items items
    (past_of c.start-hand.new.core) c.args.clients.now.entries held (g.K.Sink.held c.start-hand.new.sink) (sym same)
    (subst (λ begun. After begun (rules_of meaning c.args.core.now) items
    (past_of c.start-hand.new.core) c.args.clients.now.entries items held (g.K.Sink.held c.start-hand.new.sink))
    c.in-Ok.is (c.start-hand.ensures.after items items c.args.clients.now.entries held first)) in
    subst (λ m. AfterAll c.feed_items-fed.result.1 m items (past_of c.feed_items-fed.new.core) held
    (g.K.Sink.held c.feed_items-fed.new.sink)) same (c.feed_items-fed.ensures.after held now)

pub returns-in-Err-clause-after : goal.returns-in-Err-clause-after
returns-in-Err-clause-after g c =
    let m = rules_of g.R.Runner.meaning c.args.core.now in
    let items = c.args.recording.now.items in
    let held = g.K.Sink.held c.args.sink.now in
    subst (λ begun. After begun m items (past_of c.start-hand.new.core) c.args.clients.now.entries items held
    (g.K.Sink.held c.start-hand.new.sink)) c.in-Err.is
    (c.start-hand.ensures.after items items c.args.clients.now.entries held (core_under m c.args.core.now
    c.args.clients.now.entries items held c.requires.first c.requires.none c.requires.sound.items))
