use Rattle.std.proofs.Common.{◌≡◌, take}
use Rattle.vb_value.proofs.copying.+copying.Given as goal

abbrev pub invariant-copy_array-loop-item : goal.invariant-copy_array-loop-item
invariant-copy_array-loop-item l = l.items ≡ take l.item-index l.item-items
