use Rattle.std.proofs.Common.{◌≡◌, take}
use Rattle.vb_funcs.proofs.arrays.copies.Given as goal

abbrev pub invariant-loop-value : goal.invariant-loop-value
invariant-loop-value l = l.items ≡ take l.value-index l.values
