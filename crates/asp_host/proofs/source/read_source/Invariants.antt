use Rattle.std.proofs.Common.{◌-◌, ◌<◌, ◌≤◌, ◌^◌, length}
use Rattle.asp_host.specs.Input.{AreTaken, most_read}
use Rattle.asp_host.proofs.source.read_source.Given as goal

abbrev pub invariant-loop-source : goal.invariant-loop-source
invariant-loop-source g l = (length l.bytes ≤ most_read)
    × AreTaken (g.S.Source.left l.initial.source) (g.S.Source.left l.source) l.bytes
    × (g.S.Source.faults l.initial.source ≤ g.S.Source.faults l.source)
    × (g.S.Source.faults l.initial.source < 2 ^ 64 → g.S.Source.faults l.source < 2 ^ 64)

abbrev pub decreases-loop-source : goal.decreases-loop-source
decreases-loop-source g l = most_read - length l.bytes
