use Rattle.std.proofs.Common.{ℕ, ◌<◌, ◌≤◌, ◌^◌, List, Option}
use Rattle.asp_desk.specs.Hands.{rules_at}
use Rattle.asp_record.specs.Recorded as recorded
use Rattle.asp_replay.specs.Near.{IsBorneOut, IsLead, IsNear, past_in}
use Rattle.asp_replay.proofs.round.feed_near.Given as goal

abbrev pub invariant-loop : goal.invariant-loop
invariant-loop g l =
    IsLead g.R.Runner.meaning g.R.Runner.stands l.host l.hand
    × ((now : ℕ) × recorded.AreItems now l.items)
    × ((before : Option (List ℕ)) → IsBorneOut (rules_at g.R.Runner.meaning l.host) (past_in l.hand)
    → IsNear (rules_at g.R.Runner.meaning l.host) l.recording.items (past_in l.initial.hand) l.initial.clients.entries
    l.recording.items before (g.K.Sink.held l.initial.sink)
    → IsNear (rules_at g.R.Runner.meaning l.host) l.recording.items (past_in l.hand) l.clients.entries l.items
    before (g.K.Sink.held l.sink))
    × (g.K.Sink.faults l.initial.sink ≤ g.K.Sink.faults l.sink)
    × (g.K.Sink.faults l.initial.sink < 2 ^ 64 → g.K.Sink.faults l.sink < 2 ^ 64)
    × (IsBorneOut (rules_at g.R.Runner.meaning l.host) (past_in l.hand)
    → IsBorneOut (rules_at g.R.Runner.meaning l.host) (past_in l.initial.hand))
