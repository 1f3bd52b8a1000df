use Rattle.std.proofs.Common.{◌≡◌, take}
use Rattle.vb_value.proofs.list.ListCopied.copy.Given as goal

abbrev pub invariant-loop-item : goal.invariant-loop-item
invariant-loop-item g l = l.new ≡ take l.item-index l.self
