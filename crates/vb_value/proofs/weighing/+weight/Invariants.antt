use Rattle.std.proofs.Common.{◌≡◌, ◌+◌, ◌-◌, ◌^◌, min, take, map, sum}
use Rattle.vb_value.specs.Weight.{weight_of}
use Rattle.vb_value.proofs.weighing.+weight.Given as goal

abbrev pub invariant-loop-item : goal.invariant-loop-item
invariant-loop-item l = l.total ≡ min (32 + sum (map weight_of (take l.item-index l.item-items))) (2 ^ 64 - 1)
