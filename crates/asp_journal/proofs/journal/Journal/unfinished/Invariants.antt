use Rattle.std.proofs.Common.{◌≡◌, ◌≤◌, length, filter, reverse, take}
use Rattle.asp_job.specs.Runs as runs
use Rattle.asp_journal.proofs.journal.Journal.unfinished.Given as goal

abbrev pub invariant-loop-run : goal.invariant-loop-run
invariant-loop-run l =
    record {
      so_far : l.unfinished ≡ length (filter (runs.is_unfinished (reverse l.self.items)) (take l.run-index l.listed));
      within : l.unfinished ≤ l.run-index;
    }
