use Rattle.std.proofs.Common.{◌≡◌, false, reverse, take}
use Rattle.std.specs.List.{list_any}
use Rattle.asp_job.specs.Turns as turns
use Rattle.asp_journal.proofs.journal.Journal.has_company.Given as goal

abbrev pub invariant-loop-other : goal.invariant-loop-other
invariant-loop-other l =
    list_any (turns.is_other_open (reverse l.self.items) l.run) (take l.other-index l.listed) ≡ false
