use Rattle.asp_host.specs.Around.{Change}
use Rattle.asp_host.proofs.replay.replay_source.Goals as goal

pub returns-in-Ok-clause-writes : goal.returns-in-Ok-clause-writes
returns-in-Ok-clause-writes g c = λ files accepted.
    let left = g.S.Source.left in
    let source : Change = record { before = left c.args.source.now; after = left c.source_recording.new.source } in
    c.replay_recording.ensures.writes c.args.strict files source c.in-Ok.recording
    (record { accepted = accepted; whole = c.in-Ok.ensures.ok }) c.ruled-ruled.ensures
