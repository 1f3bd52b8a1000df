use denote.Param.Send.{sendable}
use Rattle.std.proofs.Common.{sym, subst}
use Rattle.asp_run.proofs.Moved.{run}
use Rattle.asp_site.proofs.Shared.{site}
use Rattle.asp_host.specs.declared.status.Status.{Status}
use Rattle.asp_host.specs.Around.{Change}
use Rattle.asp_host.specs.Replay.{ReplayWrites}
use Rattle.asp_host.specs.Replayed.{HasReplayed, HasStopped}
use Rattle.asp_record.specs.declared.recording.Recording.{Recording}
use Rattle.asp_host.proofs.ReplayEnds.{replay_done, replay_stopped, rules_of}
use Rattle.asp_host.proofs.replay.replay_recording.Goals as goal

pub write_replay-requires-send-R-State : goal.write_replay-requires-send-R-State
write_replay-requires-send-R-State g c κs = search (run, sendable) depth 40 fits 20000

pub write_replay-requires-sync-R-Site : goal.write_replay-requires-sync-R-Site
write_replay-requires-sync-R-Site g c κs = search (site, sendable) depth 40 fits 20000

pub returns-in-Ok-clause-writes : goal.returns-in-Ok-clause-writes
returns-in-Ok-clause-writes g c = λ strict files source read is_for ruled.
    let held = g.K.Sink.held in
    let sink : Change = record { before = held c.args.sink.now; after = held c.write_replay.new.sink } in
    replay_done c.args.workers c.args.journal strict files c.args.site source sink read is_for
    (subst (λ (last : Recording). HasReplayed c.args.workers (rules_of c.args.site last) last.items c.args.journal
    sink.before sink.after) ruled c.in-Ok.ensures.ok)

pub returns-in-Err-clause-writes : goal.returns-in-Err-clause-writes
returns-in-Err-clause-writes g c = λ strict files source read is_for ruled.
    let held = g.K.Sink.held in
    let sink : Change = record { before = held c.args.sink.now; after = held c.write_replay.new.sink } in
    subst (λ (status : Status). ReplayWrites c.args.workers c.args.journal strict files source sink status)
    (sym c.from.ensures) (replay_stopped c.args.workers c.args.journal strict files c.args.site source sink read
    c.in-Err.stop is_for (subst (λ (last : Recording). HasStopped c.args.workers (rules_of c.args.site last) last.items
    c.args.journal sink.before sink.after c.in-Err.stop) ruled c.in-Err.ensures.err))
