use Rattle.std.proofs.Common.{◌≡◌, take, int_le, negsuc}
use Rattle.std.specs.List.{list_all}
use Rattle.asp_record.proofs.value_reading.are_bounds.Given as goal

abbrev pub invariant-loop-bound : goal.invariant-loop-bound
invariant-loop-bound l = l.all ≡ list_all (λ bound. int_le (negsuc 0) bound) (take l.bound-index l.bounds)
