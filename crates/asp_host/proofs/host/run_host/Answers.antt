use Rattle.std.proofs.Common.{◌≡◌, refl, arith}
use Rattle.asp_command.specs.declared.words.Command.TheVariants.{Gen, Replay, Serve}
use Rattle.asp_command.proofs.OneCommand.{one_command}
use Rattle.asp_command.proofs.Ranges.{replay_within, serve_within}
use Rattle.asp_host.proofs.host.run_host.Goals as goal

pub replay-requires-after_bounds : goal.replay-requires-after_bounds
replay-requires-after_bounds g c κs within =
    let said = rw c.in-Ok-Replay.field-0-is at c.in-Ok-Replay.ensures.ok in
    let ranges = replay_within _ _ _ _ _ said in
    (ranges.0, omega (arith, ranges.1))

pub returns-in-Ok-Replay-clause-ends : goal.returns-in-Ok-Replay-clause-ends
returns-in-Ok-Replay-clause-ends g c = λ command says.
    let said = rw c.in-Ok-Replay.field-0-is at c.in-Ok-Replay.ensures.ok in
    let same : command ≡ Replay _ c.in-Ok-Replay.workers c.in-Ok-Replay.journal c.in-Ok-Replay.strict =
    one_command _ command (Replay _ c.in-Ok-Replay.workers c.in-Ok-Replay.journal c.in-Ok-Replay.strict) says said in
    rw same c.replay.ensures.writes

pub serve-requires-after_bounds : goal.serve-requires-after_bounds
serve-requires-after_bounds g c κs within =
    let said = rw c.in-Ok-Serve.field-0-is at c.in-Ok-Serve.ensures.ok in
    let ranges = serve_within _ _ _ _ _ _ said in
    (ranges.2, omega (arith, ranges.3))

pub returns-in-Ok-Serve-clause-ends : goal.returns-in-Ok-Serve-clause-ends
returns-in-Ok-Serve-clause-ends g c = λ command says.
    let said = rw c.in-Ok-Serve.field-0-is at c.in-Ok-Serve.ensures.ok in
    let same : command ≡ Serve _ c.in-Ok-Serve.requests c.in-Ok-Serve.workers _ c.in-Ok-Serve.strict =
    one_command _ command (Serve _ c.in-Ok-Serve.requests c.in-Ok-Serve.workers _ c.in-Ok-Serve.strict) says said in
    rw same (refl, refl, c.serve.ensures.meets)

pub returns-in-Ok-Gen-clause-ends : goal.returns-in-Ok-Gen-clause-ends
returns-in-Ok-Gen-clause-ends g c = λ command says.
    let said = rw c.in-Ok-Gen.field-0-is at c.in-Ok-Gen.ensures.ok in
    let same : command ≡ Gen c.in-Ok-Gen.count c.in-Ok-Gen.journal =
    one_command _ command (Gen c.in-Ok-Gen.count c.in-Ok-Gen.journal) says said in
    rw same (refl, c.replay_generated.ensures.writes)
