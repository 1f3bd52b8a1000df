use Rattle.std.proofs.Common.{◌≡◌, ◌++◌, take}
use Rattle.std.specs.List.{flat_map}
use Rattle.vb_heap.specs.References.{references}
use Rattle.vb_heap.proofs.references.+add_references.Given as goal

abbrev pub invariant-loop-item : goal.invariant-loop-item
invariant-loop-item l = l.found ≡ l.fn.found ++ flat_map references (take l.item-index l.item-items)
