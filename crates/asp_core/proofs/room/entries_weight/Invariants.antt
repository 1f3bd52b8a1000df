use Rattle.std.proofs.Common.{◌≡◌, ◌-◌, ◌^◌, min, sum_by, take}
use Rattle.asp_core.specs.Calm as spec
use Rattle.asp_core.proofs.room.entries_weight.Given as goal

abbrev pub invariant-loop-entry : goal.invariant-loop-entry
invariant-loop-entry l = l.total ≡ min (sum_by spec.entry_weight (take l.entry-index l.entries)) (2 ^ 64 - 1)
