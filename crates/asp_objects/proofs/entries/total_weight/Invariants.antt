use Rattle.std.proofs.Common.{◌≡◌, ◌-◌, ◌^◌, min, take}
use Rattle.asp_objects.specs.Entries.{weight_of_entries}
use Rattle.asp_objects.proofs.entries.total_weight.Given as goal

abbrev pub invariant-loop-entry : goal.invariant-loop-entry
invariant-loop-entry l = l.total ≡ min (weight_of_entries (take l.entry-index l.entries)) (2 ^ 64 - 1)
