use Rattle.std.proofs.Common.{◌≡◌, ◌-◌, take}
use Rattle.std.specs.List.{list_all}
use Rattle.vb_heap.proofs.Depths.{is_within}
use Rattle.vb_heap.proofs.depth.+nests_within.Given as goal

abbrev pub invariant-loop-item : goal.invariant-loop-item
invariant-loop-item l = l.within ≡ list_all (is_within (l.most - 1)) (take l.item-index l.item-items)
