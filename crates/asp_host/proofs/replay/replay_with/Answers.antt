use Rattle.std.proofs.Common.{Err, ap, arith}
use Rattle.asp_command.specs.declared.words.Command.TheVariants.{Replay}
use Rattle.asp_command.proofs.OneCommand.{one_command}
use Rattle.asp_command.proofs.Ranges.{replay_within}
use Rattle.asp_host.proofs.ReplayEnds.{same_replay}
use Rattle.asp_host.proofs.replay.replay_with.Goals as goal

pub replay-requires-after_bounds : goal.replay-requires-after_bounds
replay-requires-after_bounds g c κs within =
    let said = rw c.in-Ok-Replay.field-0-is at c.in-Ok-Replay.ensures.ok in
    let ranges = replay_within _ _ _ _ _ said in
    (ranges.0, omega (arith, ranges.1))

pub returns-in-Ok-Replay-clause-ends : goal.returns-in-Ok-Replay-clause-ends
returns-in-Ok-Replay-clause-ends g c = λ site workers journal strict says.
    let said = rw c.in-Ok-Replay.field-0-is at c.in-Ok-Replay.ensures.ok in
    let same = one_command _ (Replay site workers journal strict)
    (Replay c.in-Ok-Replay.field-0-0 c.in-Ok-Replay.workers c.in-Ok-Replay.journal c.in-Ok-Replay.strict) says said in
    let all = same_replay site c.in-Ok-Replay.field-0-0 workers c.in-Ok-Replay.workers journal c.in-Ok-Replay.journal
    strict c.in-Ok-Replay.strict same in
    rw all.0 (rw all.1 (rw all.2 c.replay.ensures.writes))

pub returns-in-Err-Usage-clause-ends : goal.returns-in-Err-Usage-clause-ends
returns-in-Err-Usage-clause-ends g c = λ site workers journal strict says.
    c.in-Err-Usage.ensures.usage (ap Err c.in-Err-Usage.field-0-is) (Replay site workers journal strict) says
