use Rattle.std.specs.Prelude.{◌≡◌, ◌<◌, ◌≤◌, ◌^◌, ℕ, List, Option}
use Rattle.asp_core.specs.Kernel.{grown, past_of, rules_of}
use Rattle.asp_job.specs.declared.entry.Entry.{Entry}
use Rattle.asp_lane.specs.Started.{HasStarted}
use Rattle.asp_lane.specs.Turns.{Fits, run_in}
use Rattle.asp_replay.specs.Underway.{IsUnderWay}
use Rattle.asp_replay.proofs.feeding.feed_items.Given as goal

abbrev pub invariant-loop : goal.invariant-loop
invariant-loop g l = record {
  grows : (entries : List Entry) × (l.core ≡ grown l.fn.core entries);
  fits : Fits g.R.Runner.meaning g.R.Runner.stands l.core 0 (run_in l.hand);
  started : HasStarted (rules_of g.R.Runner.meaning l.fn.core) (past_of l.core);
  under : (before : Option (List ℕ))
      → IsUnderWay (rules_of g.R.Runner.meaning l.fn.core) l.recording.items (past_of l.fn.core)
      l.fn.clients.entries l.recording.items before (g.K.Sink.held l.fn.sink)
      → IsUnderWay (rules_of g.R.Runner.meaning l.fn.core) l.recording.items (past_of l.core) l.clients.entries
      l.items before (g.K.Sink.held l.sink);
  later : g.K.Sink.faults l.fn.sink ≤ g.K.Sink.faults l.sink;
  within : g.K.Sink.faults l.fn.sink < 2 ^ 64 → g.K.Sink.faults l.sink < 2 ^ 64;
}
