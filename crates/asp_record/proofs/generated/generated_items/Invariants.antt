use Rattle.std.proofs.Common.{◌≡◌, map}
use Rattle.std.specs.List.{range_with_len}
use Rattle.asp_record.specs.Generated as spec
use Rattle.asp_record.proofs.generated.generated_items.Given as goal

abbrev pub invariant-loop-i : goal.invariant-loop-i
invariant-loop-i l = l.items ≡ map spec.generated_item (range_with_len 0 l.i)
