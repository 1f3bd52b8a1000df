use Rattle.std.proofs.Common.{length, ◌-◌, ◌≡◌, take, ◌<◌, ◌≤◌, ◌^◌}
use Rattle.asp_io.specs.Sink.{with_bytes}
use Rattle.asp_io.proofs.copying.write_all.Given as goal

abbrev pub invariant-loop-taken : goal.invariant-loop-taken
invariant-loop-taken g l = (l.taken ≤ length l.piece)
    × (g.K.Sink.held l.sink ≡ with_bytes (g.K.Sink.held l.initial.sink) (take l.taken l.piece))
    × (g.K.Sink.faults l.initial.sink ≤ g.K.Sink.faults l.sink)
    × (g.K.Sink.faults l.initial.sink < 2 ^ 64 → g.K.Sink.faults l.sink < 2 ^ 64)

abbrev pub decreases-loop-taken : goal.decreases-loop-taken
decreases-loop-taken g l = length l.piece - l.taken
