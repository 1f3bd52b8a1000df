use Rattle.std.specs.Prelude.{false}
use Rattle.asp_core.specs.Kernel.{rules_by, setting_of}
use Rattle.asp_host.specs.Gen.{IsSumStop}
use Rattle.asp_host.proofs.Causes.{handed_on}
use Rattle.asp_host.proofs.Summed.{no_cause, sum_err, sum_ok, sum_stopped}
use Rattle.asp_host.proofs.summing.write_generated.Goals as goal

pub returns-in_err-core-clause-err : goal.returns-in_err-core-clause-err
returns-in_err-core-clause-err g c =
    let rules = rules_by (g.R.Runner.meaning c.args.runner c.args.site)
    (setting_of c.args.recording.now.seed c.args.recording.now.strict) in
    let items = c.args.recording.now.items in
    let held = g.K.Sink.held c.args.sink.now in
    let ended = c.in_err-core.field-0.0 in
    handed_on c.from_residual.result ended
    (IsSumStop rules items c.args.count c.args.journal (record { before = held; after = held })) c.from_residual.ensures.1
    (sum_stopped rules items c.args.count c.args.journal held c.feed_by.result ended c.feed_by.ensures.cause c.in_err-core.was
    c.in_err-core.ensures.err)

pub returns-in_err-core-clause-cause : goal.returns-in_err-core-clause-cause
returns-in_err-core-clause-cause g c =
    no_cause c.feed_by.result c.in_err-core.field-0.0 c.from_residual.result (g.K.Sink.faults c.args.sink.now)
    c.feed_by.ensures.cause c.in_err-core.was c.from_residual.ensures.1

pub returns-clause-ok : goal.returns-clause-ok
returns-clause-ok g c =
    sum_ok g.R.Runner.meaning c.in_ok-core.core c.args.runner c.args.site
    (setting_of c.args.recording.now.seed c.args.recording.now.strict)
    c.args.recording.now.items c.args.count c.args.journal (g.K.Sink.held c.args.sink.now)
    (g.K.Sink.held c.write_summary-written.new.sink) c.write_summary-written.result
    c.in_ok-core.ensures.core c.write_summary-written.ensures.valid
    c.in_ok-core.ensures.ok.whole c.write_summary-written.ensures.wrote c.write_summary-written.ensures.lines

pub returns-clause-err : goal.returns-clause-err
returns-clause-err g c =
    sum_err g.R.Runner.meaning c.in_ok-core.core c.args.runner c.args.site
    (setting_of c.args.recording.now.seed c.args.recording.now.strict)
    c.args.recording.now.items c.args.count c.args.journal (g.K.Sink.held c.args.sink.now)
    (g.K.Sink.held c.write_summary-written.new.sink) c.write_summary-written.result
    c.in_ok-core.ensures.core c.write_summary-written.ensures.valid
    c.in_ok-core.ensures.ok.whole c.write_summary-written.ensures.wrote
