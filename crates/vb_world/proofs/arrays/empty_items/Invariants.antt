use Rattle.std.proofs.Common.{◌≡◌, replicate}
use Rattle.vb_value.specs.declared.value.Value.{Empty}
use Rattle.vb_world.proofs.arrays.empty_items.Given as goal

abbrev pub invariant-loop-made : goal.invariant-loop-made
invariant-loop-made l = l.items ≡ replicate l._made Empty
