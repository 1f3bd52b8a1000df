use Rattle.std.proofs.Common.{◌≡◌, ◌+◌, ◌++◌, drop}
use Rattle.asp_job.specs.Journal as journals
use Rattle.asp_job.specs.Turns as turns
use Rattle.asp_core.proofs.entries.add_closing.Given as goal

abbrev pub invariant-loop-key : goal.invariant-loop-key
invariant-loop-key l = record {
  more : l.entries ++ journals.queue_entries l.lane l.run
      (turns.closing_runs (drop l.key-index l.keys)) ≡ l.fn.entries ++ journals.queue_entries l.lane l.first
      (turns.closing_runs l.keys);
  run_is : l.run ≡ l.first + l.key-index;
}
