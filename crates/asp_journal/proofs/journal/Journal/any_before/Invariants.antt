use Rattle.std.proofs.Common.{◌≡◌, false, reverse, take}
use Rattle.std.specs.List.{list_any}
use Rattle.asp_job.specs.Turns as turns
use Rattle.asp_journal.proofs.journal.Journal.any_before.Given as goal

abbrev pub invariant-loop-other : goal.invariant-loop-other
invariant-loop-other l = list_any (turns.goes_before (reverse l.self.items) l.run) (take l.other-index l.listed) ≡ false
