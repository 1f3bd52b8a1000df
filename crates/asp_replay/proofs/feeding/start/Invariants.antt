use Rattle.std.specs.Prelude.{◌≡◌, ◌<◌, ◌≤◌, ◌^◌, ℕ, List, [], Option}
use Rattle.asp_core.specs.Kernel.{grown, past_of, rules_of}
use Rattle.asp_job.specs.declared.entry.Entry.{Entry}
use Rattle.asp_lane.specs.Turns.{Fits, run_in}
use Rattle.asp_record.specs.declared.recording.Item.{Item}
use Rattle.asp_feed.specs.Feeding.{Clients, events_of}
use Rattle.asp_replay.specs.Underway.{IsUnderWay}
use Rattle.asp_replay.proofs.feeding.start.Given as goal

abbrev pub invariant-loop : goal.invariant-loop
invariant-loop g l = record {
  grows : (entries : List Entry) × (l.core ≡ grown l.fn.core entries);
  fits : Fits g.R.Runner.meaning g.R.Runner.stands l.core 0 (run_in l.hand);
  none_came : events_of (past_of l.core) ≡ [];
  under : (items left : List Item) (clients : Clients) (before : Option (List ℕ))
      → IsUnderWay (rules_of g.R.Runner.meaning l.fn.core) items (past_of l.fn.core) clients left before
      (g.K.Sink.held l.fn.sink)
      → IsUnderWay (rules_of g.R.Runner.meaning l.fn.core) items (past_of l.core) clients left before
      (g.K.Sink.held l.sink);
  later : g.K.Sink.faults l.fn.sink ≤ g.K.Sink.faults l.sink;
  within : g.K.Sink.faults l.fn.sink < 2 ^ 64 → g.K.Sink.faults l.sink < 2 ^ 64;
}
