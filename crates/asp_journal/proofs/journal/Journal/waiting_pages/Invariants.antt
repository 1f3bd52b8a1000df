use Rattle.std.proofs.Common.{◌≡◌, ◌≤◌, length, filter, reverse, take}
use Rattle.asp_job.specs.Turns as turns
use Rattle.asp_journal.proofs.journal.Journal.waiting_pages.Given as goal

abbrev pub invariant-loop-run : goal.invariant-loop-run
invariant-loop-run l =
    record {
      so_far : l.waiting ≡ length (filter (turns.is_waiting_page (reverse l.self.items)) (take l.run-index l.listed));
      within : l.waiting ≤ l.run-index;
    }
