use Rattle.std.specs.Prelude.{false}
use Rattle.std.proofs.Common.{subst, sym}
use Rattle.std.proofs.lemmas.Result.{err_from_is_err_and}
use Rattle.asp_core.specs.Kernel.{rules_by, setting_of}
use Rattle.asp_replay.specs.declared.stop.FeedStop.TheVariants.{WriteFault}
use Rattle.asp_host.specs.Replayed.{HasStopped}
use Rattle.asp_host.proofs.Causes.{cause_after}
use Rattle.asp_host.proofs.Replaying.{feed_stopped, replay_err, replay_ok}
use Rattle.asp_host.proofs.output.write_replay.Goals as goal

pub returns-in_err-core-clause-err : goal.returns-in_err-core-clause-err
returns-in_err-core-clause-err g c =
    let m = rules_by (g.R.Runner.meaning c.args.runner c.args.site)
    (setting_of c.args.recording.now.seed c.args.recording.now.strict) in
    let items = c.args.recording.now.items in
    let before = g.K.Sink.held c.args.sink.now in
    let after = g.K.Sink.held c.feed_by.new.sink in
    let p = err_from_is_err_and c.from_residual.result c.from_residual.ensures.1 in
    rw p.1 (subst (HasStopped c.args.workers m items c.args.journal before after) (sym p.2)
    (feed_stopped c.args.workers m items c.args.journal before after c.in_err-core.field-0.0 c.in_err-core.ensures.err))

pub returns-clause-ok : goal.returns-clause-ok
returns-clause-ok g c =
    replay_ok c.args.workers g.R.Runner.meaning c.in_ok-core.core c.args.runner c.args.site
    (setting_of c.args.recording.now.seed c.args.recording.now.strict)
    c.args.recording.now.items c.args.journal (g.K.Sink.held c.args.sink.now) (g.K.Sink.held c.feed_by.new.sink)
    (g.K.Sink.held c.write_end-written.new.sink) c.write_end-written.result
    c.in_ok-core.ensures.core c.write_end-written.ensures.valid
    c.in_ok-core.ensures.ok c.write_end-written.ensures.wrote c.write_end-written.ensures.lines

pub returns-clause-err : goal.returns-clause-err
returns-clause-err g c =
    replay_err c.args.workers g.R.Runner.meaning c.in_ok-core.core c.args.runner c.args.site
    (setting_of c.args.recording.now.seed c.args.recording.now.strict)
    c.args.recording.now.items c.args.journal (g.K.Sink.held c.args.sink.now) (g.K.Sink.held c.feed_by.new.sink)
    (g.K.Sink.held c.write_end-written.new.sink) c.write_end-written.result
    c.in_ok-core.ensures.core c.write_end-written.ensures.valid
    c.in_ok-core.ensures.ok c.write_end-written.ensures.wrote

pub returns-clause-cause : goal.returns-clause-cause
returns-clause-cause g c =
    cause_after WriteFault (g.K.Sink.faults c.args.sink.now) (g.K.Sink.faults c.feed_by.new.sink)
    (g.K.Sink.faults c.write_end-written.new.sink) c.feed_by.result c.write_end-written.result c.feed_by.ensures.cause
    c.write_end-written.ensures.cause
