use Rattle.std.proofs.Common.{◌<◌, ◌≤◌, ◌^◌}
use Rattle.asp_replay.proofs.HandingOut.{IsHanding, left_in}
use Rattle.asp_replay.proofs.handing.hand_out.Given as goal

abbrev pub invariant-loop-run : goal.invariant-loop-run
invariant-loop-run g l =
    IsHanding g.R.Runner.meaning l.initial.core l.core (g.K.Sink.held l.initial.sink) (g.K.Sink.held l.sink)
    × (g.K.Sink.faults l.initial.sink ≤ g.K.Sink.faults l.sink)
    × (g.K.Sink.faults l.initial.sink < 2 ^ 64 → g.K.Sink.faults l.sink < 2 ^ 64)

abbrev pub decreases-loop-run : goal.decreases-loop-run
decreases-loop-run g l = left_in g.R.Runner.meaning l.core
