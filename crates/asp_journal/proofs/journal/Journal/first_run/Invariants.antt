use Rattle.std.proofs.Common.{◌≡◌, None, reverse, take}
use Rattle.std.specs.List.{find}
use Rattle.asp_job.specs.Turns as turns
use Rattle.asp_journal.proofs.journal.Journal.first_run.Given as goal

abbrev pub invariant-loop-run : goal.invariant-loop-run
invariant-loop-run l = find (turns.may_begin (reverse l.self.items)) (take l.run-index l.listed) ≡ None
