use denote.Param.Send.{sendable}
use Rattle.std.proofs.Common.{sym, subst}
use Rattle.asp_run.proofs.Moved.{run}
use Rattle.asp_site.proofs.Shared.{site}
use Rattle.asp_host.specs.declared.status.Status.{Status}
use Rattle.asp_host.specs.Around.{Change}
use Rattle.asp_host.specs.Gen.{GenWrites}
use Rattle.asp_host.proofs.GenEnds.{gen_done, gen_stopped}
use Rattle.asp_host.proofs.generated.write_made.Goals as goal

pub write_generated-requires-send-R-State : goal.write_generated-requires-send-R-State
write_generated-requires-send-R-State g c κs = search (run, sendable) depth 40 fits 20000

pub write_generated-requires-sync-R-Site : goal.write_generated-requires-sync-R-Site
write_generated-requires-sync-R-Site g c κs = search (site, sendable) depth 40 fits 20000

pub returns-in-Ok-clause-writes : goal.returns-in-Ok-clause-writes
returns-in-Ok-clause-writes g c =
    gen_done c.args.count c.args.journal c.args.site c.args.recording.now
    (record { before = g.K.Sink.held c.args.sink.now; after = g.K.Sink.held c.write_generated.new.sink })
    c.requires.requests c.requires.accepted c.in-Ok.ensures.ok

pub returns-in-Err-clause-writes : goal.returns-in-Err-clause-writes
returns-in-Err-clause-writes g c =
    let held = g.K.Sink.held in
    let sink : Change = record { before = held c.args.sink.now; after = held c.write_generated.new.sink } in
    subst (λ (status : Status). GenWrites c.args.count c.args.journal sink status) (sym c.from.ensures)
    (gen_stopped c.args.count c.args.journal c.args.site c.args.recording.now sink c.in-Err.stop
    c.requires.requests c.requires.accepted c.in-Err.ensures.err)
