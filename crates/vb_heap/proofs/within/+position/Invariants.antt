use Rattle.std.proofs.Common.{length}
use Rattle.vb_heap.proofs.within.+position.Given as goal

abbrev pub decreases-position : goal.decreases-position
decreases-position l = length l.bounds.now
