use Rattle.std.proofs.Common.{◌≡◌, ◌<◌, ◌≤◌, ◌^◌, Ok}
use Rattle.asp_desk.specs.Hands.{rules_at}
use Rattle.asp_replay.specs.Near.{IsBorneOut, IsLead, StaysNear, past_in}
use Rattle.asp_replay.proofs.near.hand_out_near.Given as goal

abbrev pub invariant-loop : goal.invariant-loop
invariant-loop g l =
    IsLead g.R.Runner.meaning g.R.Runner.stands l.host l.hand × (l.hand.run ≡ l.initial.hand.run)
    × (IsBorneOut (rules_at g.R.Runner.meaning l.host) (past_in l.hand)
    → StaysNear {T = Unit {0}} (rules_at g.R.Runner.meaning l.host) (Ok tt) (past_in l.initial.hand) (past_in l.hand)
    (g.K.Sink.held l.initial.sink) (g.K.Sink.held l.sink))
    × (g.K.Sink.faults l.initial.sink ≤ g.K.Sink.faults l.sink)
    × (g.K.Sink.faults l.initial.sink < 2 ^ 64 → g.K.Sink.faults l.sink < 2 ^ 64)
