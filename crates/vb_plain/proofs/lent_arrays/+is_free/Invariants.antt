use Rattle.std.proofs.Common.{◌≡◌, [], take}
use Rattle.std.specs.List.{flat_map}
use Rattle.vb_heap.specs.References.{references}
use Rattle.vb_meaning.specs.Values.{copied}
use Rattle.vb_plain.proofs.lent_arrays.+is_free.Given as goal

abbrev pub invariant-loop-item : goal.invariant-loop-item
invariant-loop-item l = flat_map (λ item. references (copied item)) (take l.item-index l.item-items) ≡ []
