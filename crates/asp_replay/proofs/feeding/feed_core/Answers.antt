use Rattle.std.proofs.Common.{IfErr, subst}
use Rattle.asp_core.specs.Kernel.{past_of, rules_of}
use Rattle.asp_io.specs.Faults.{HasCause}
use Rattle.asp_replay.specs.declared.stop.FeedStop.TheVariants as stop
use Rattle.asp_replay.specs.Feed.{IsPassed}
use Rattle.asp_replay.specs.Underway.{AfterAll}
use Rattle.asp_replay.proofs.Starting.{grown_more, host_grown, rules_grown}
use Rattle.asp_replay.proofs.WindingUp.{ends_then, fault_then, passed_then}
use Rattle.asp_replay.proofs.feeding.feed_core.Goals as goal

pub returns-in-Ok-clause-after : goal.returns-in-Ok-clause-after
returns-in-Ok-clause-after g c =
    subst (λ fed. AfterAll fed (rules_of g.R.Runner.meaning c.args.core.now) c.args.recording.now.items
    (past_of c.feed_host-hand.new.core) (g.K.Sink.held c.args.sink.now) (g.K.Sink.held c.feed_host-hand.new.sink))
    c.in-Ok.is c.feed_host-hand.ensures.after

pub returns-in-Ok-clause-cause : goal.returns-in-Ok-clause-cause
returns-in-Ok-clause-cause g c =
    subst (λ fed. HasCause stop.WriteFault (g.K.Sink.faults c.args.sink.now)
    (g.K.Sink.faults c.feed_host-hand.new.sink) fed) c.in-Ok.is c.feed_host-hand.ensures.cause

pub wind_up-stop-requires-clause-host : goal.wind_up-stop-requires-clause-host
wind_up-stop-requires-clause-host g c =
    host_grown c.args.core.now c.feed_host-hand.new.core c.feed_host-hand.ensures.grows.0 c.args.runner.now
    c.args.site.now c.feed_host-hand.ensures.grows.1 c.requires.host

pub returns-in-Err-clause-grows : goal.returns-in-Err-clause-grows
returns-in-Err-clause-grows g c =
    grown_more c.args.core.now c.feed_host-hand.new.core c.wind_up-stop.new.core c.feed_host-hand.ensures.grows
    (c.wind_up-stop.ensures.grows.entries, c.wind_up-stop.ensures.grows.new_is)

pub returns-in-Err-clause-after : goal.returns-in-Err-clause-after
returns-in-Err-clause-after g c =
    let m = rules_of g.R.Runner.meaning c.args.core.now in
    let items = c.args.recording.now.items in
    let before = g.K.Sink.held c.args.sink.now in
    let after = g.K.Sink.held c.feed_host-hand.new.sink in
    let ends = subst (λ fed. AfterAll fed m items (past_of c.feed_host-hand.new.core) before after) c.in-Err.is
    c.feed_host-hand.ensures.after in
    ends_then m items c.feed_host-hand.new.core c.wind_up-stop.new.core c.in-Err.stop c.wind_up-stop.result before after
    c.wind_up-stop.ensures.grows c.wind_up-stop.ensures.stop c.wind_up-stop.ensures.failed ends

pub returns-in-Err-clause-passed : goal.returns-in-Err-clause-passed
returns-in-Err-clause-passed g c =
    let meaning = g.R.Runner.meaning in
    let mid = c.feed_host-hand.new.core in
    let same = rules_grown meaning c.args.core.now mid c.feed_host-hand.ensures.grows.0
    c.feed_host-hand.ensures.grows.1 in
    let passed = subst (λ fed. IfErr fed (IsPassed (rules_of meaning c.args.core.now) (past_of mid))) c.in-Err.is
    c.feed_host-hand.ensures.passed in
    passed_then meaning mid c.wind_up-stop.new.core (rules_of meaning c.args.core.now) c.in-Err.stop
    c.wind_up-stop.result same c.wind_up-stop.ensures.grows c.journal.ensures.valid c.wind_up-stop.ensures.stop passed

pub returns-in-Err-clause-cause : goal.returns-in-Err-clause-cause
returns-in-Err-clause-cause g c =
    let old = g.K.Sink.faults c.args.sink.now in
    let new = g.K.Sink.faults c.feed_host-hand.new.sink in
    fault_then old new c.in-Err.stop c.wind_up-stop.result c.wind_up-stop.ensures.stop
    (subst (λ fed. HasCause stop.WriteFault old new fed) c.in-Err.is c.feed_host-hand.ensures.cause)
