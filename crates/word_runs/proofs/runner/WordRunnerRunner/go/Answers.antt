use Rattle.word_runs.proofs.Ended.{ended}
use Rattle.word_runs.proofs.runner.WordRunnerRunner.go.Goals as goal

pub returns-in-Ok-Ends-clause-stands : goal.returns-in-Ok-Ends-clause-stands
returns-in-Ok-Ends-clause-stands c =
    let come = rw c.in-Ok-Ends.field-0-is at c.in-Ok-Ends.ensures in
    λ told spent stands. ended c.args.run.now told c.in-Ok-Ends.finished c.requires.going stands come
