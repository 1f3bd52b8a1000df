use Rattle.std.proofs.Common.{◌≡◌, min, take}
use Rattle.vb_value.specs.Sound.{product}
use Rattle.asp_record.proofs.value_reading.item_count.Given as goal

abbrev pub invariant-loop-bound : goal.invariant-loop-bound
invariant-loop-bound l = l.count ≡ min (product (take l.bound-index l.bounds)) 18446744073709551616
