use Rattle.std.proofs.Common.{◌≡◌, map, take}
use Rattle.vb_meaning.specs.Values.{copied}
use Rattle.vb_world.proofs.copying.+copying.Given as goal

abbrev pub invariant-copied_array-loop-item : goal.invariant-copied_array-loop-item
invariant-copied_array-loop-item l = l.items ≡ map copied (take l.item-index l.item-items)
