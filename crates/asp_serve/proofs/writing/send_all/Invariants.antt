use Rattle.std.proofs.Common.{length, ◌-◌, ◌≡◌, take, ◌<◌, ◌≤◌, ◌^◌}
use Rattle.asp_io.specs.Sink.{with_bytes}
use Rattle.asp_serve.proofs.writing.send_all.Given as goal

abbrev pub invariant-loop-taken : goal.invariant-loop-taken
invariant-loop-taken g l = (l.taken ≤ length l.piece)
    × (g.L.Link.held l.link ≡ with_bytes (g.L.Link.held l.initial.link) (take l.taken l.piece))
    × (g.L.Link.faults l.initial.link ≤ g.L.Link.faults l.link)
    × (g.L.Link.faults l.initial.link < 2 ^ 64 → g.L.Link.faults l.link < 2 ^ 64)
    × (g.L.Link.left l.link ≡ g.L.Link.left l.initial.link)

abbrev pub decreases-loop-taken : goal.decreases-loop-taken
decreases-loop-taken g l = length l.piece - l.taken
