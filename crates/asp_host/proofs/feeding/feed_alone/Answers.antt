use Rattle.std.specs.Prelude.{false}
use Rattle.std.proofs.Common.{◌<◌, All, List, subst}
use Rattle.asp_core.specs.Kernel.{past_of, rules_by, setting_of}
use Rattle.asp_core.specs.Ready.{IsAnswered}
use Rattle.asp_job.specs.declared.entry.Entry.{Entry}
use Rattle.asp_job.specs.Journal.{IsValidJournal}
use Rattle.asp_job.specs.Rules.{Rules}
use Rattle.asp_replay.proofs.FedBack.{rules_here}
use Rattle.asp_replay.specs.declared.stop.FeedStop.{FeedStop}
use Rattle.asp_host.specs.Replayed.{HasFedUntil}
use Rattle.asp_host.proofs.Causes.{handed_on}
use Rattle.asp_host.proofs.Fed.{fed_alone, fed_strangely, memory_cause, part_alone}
use Rattle.asp_host.proofs.feeding.feed_alone.Goals as goal

pub returns-in_err-core-clause-err : goal.returns-in_err-core-clause-err
returns-in_err-core-clause-err g c =
    let m = rules_by (g.R.Runner.meaning c.args.runner c.args.site) (setting_of c.args.recording.now.seed c.args.recording.now.strict) in
    let items = c.args.recording.now.items in
    let before = g.K.Sink.held c.args.sink.now in
    let after = g.K.Sink.held c.feed-fed.new.sink in
    let ended = c.in_err-core.field-0.0 in
    handed_on c.from_residual.result ended (λ (stop : FeedStop). HasFedUntil 1 m items stop before after)
    c.from_residual.ensures.1 (part_alone m items ended before after c.in_err-core.ensures.err)

pub returns-then-are_of_first-clause-ok : goal.returns-then-are_of_first-clause-ok
returns-then-are_of_first-clause-ok g c =
    let m = rules_by (g.R.Runner.meaning c.args.runner c.args.site) (setting_of c.args.recording.now.seed c.args.recording.now.strict) in
    fed_alone m c.args.recording.now.items c.in_ok-core.core.journal (g.K.Sink.held c.args.sink.now)
    (g.K.Sink.held c.feed-fed.new.sink) c.in_ok-core.ensures.ok
    (subst (λ (entries : List Entry). All (λ (entry : Entry). entry.lane < 1) entries) c.journal.ensures.journal
    (c.are_of_first.ensures.0 c.if-are_of_first.true))

pub returns-clause-err : goal.returns-clause-err
returns-clause-err g c =
    let core = c.in_ok-core.core in
    let setting = setting_of c.args.recording.now.seed c.args.recording.now.strict in
    let past = past_of core in
    let same = rules_here g.R.Runner.meaning core c.args.runner c.args.site setting c.in_ok-core.ensures.core in
    fed_strangely (rules_by (g.R.Runner.meaning c.args.runner c.args.site) setting) c.args.recording.now.items past
    (g.K.Sink.held c.args.sink.now) (g.K.Sink.held c.feed-fed.new.sink)
    (subst (λ (some : Rules). IsValidJournal some past) same c.journal.ensures.valid)
    (subst (λ (some : Rules). IsAnswered some past) same c.journal.ensures.answered) c.in_ok-core.ensures.ok

pub returns-clause-cause : goal.returns-clause-cause
returns-clause-cause g c =
    memory_cause (g.K.Sink.faults c.args.sink.now) (g.K.Sink.faults c.feed-fed.new.sink) c.feed-fed.result
    c.feed-fed.ensures.cause
