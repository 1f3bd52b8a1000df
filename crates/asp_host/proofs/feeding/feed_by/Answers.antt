use Rattle.std.specs.Prelude.{false}
use Rattle.std.proofs.Common.{◌<◌, All}
use Rattle.asp_core.specs.Kernel.{past_of, rules_by, setting_of}
use Rattle.asp_job.specs.declared.entry.Entry.{Entry}
use Rattle.asp_replay.specs.Workers.{HasFedBeside}
use Rattle.asp_host.specs.Replayed.{HasFedBy}
use Rattle.asp_host.proofs.Fed.{fed_by, ok_both}
use Rattle.asp_host.proofs.feeding.feed_by.Goals as goal

pub returns-clause-ok : goal.returns-clause-ok
returns-clause-ok g c =
    let m = rules_by (g.R.Runner.meaning c.args.runner c.args.site) (setting_of c.args.recording.now.seed c.args.recording.now.strict) in
    let items = c.args.recording.now.items in
    let before = g.K.Sink.held c.args.sink.now in
    let after = g.K.Sink.held c.feed_with.new.sink in
    ok_both c.feed_with.result (λ core. HasFedBeside m items (past_of core) before after)
    (λ core. All (λ (entry : Entry). entry.lane < c.args.workers) core.journal)
    (λ core. HasFedBy c.args.workers m items (past_of core) before after)
    (λ core fed lanes. fed_by c.args.workers m items core.journal before after c.if-workers-eq1.false fed lanes)
    c.feed_with.ensures.ok c.feed_with.ensures.lanes
