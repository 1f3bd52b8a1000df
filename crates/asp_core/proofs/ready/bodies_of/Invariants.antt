use Rattle.std.proofs.Common.{◌≡◌, ◌-◌, ◌^◌, min, take}
use Rattle.asp_core.specs.Ready as spec
use Rattle.asp_core.proofs.ready.bodies_of.Given as goal

abbrev pub invariant-loop-ready : goal.invariant-loop-ready
invariant-loop-ready l = l.total ≡ min (spec.bodies_of (take l.ready-index l.answers)) (2 ^ 64 - 1)
