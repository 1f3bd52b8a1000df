use Rattle.std.proofs.Common.{◌≡◌, take}
use Rattle.page_read.proofs.expansion.chain_to.Given as goal

abbrev pub invariant-loop-other : goal.invariant-loop-other
invariant-loop-other l = l.chain ≡ take l.other-index l.around
