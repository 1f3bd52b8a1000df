use Rattle.std.proofs.Common.{◌≡◌, length}
use Rattle.page_read.specs.Forms as spec
use Rattle.page_read.proofs.opened.are_distinct.Given as goal

abbrev pub invariant-loop-rest : goal.invariant-loop-rest
invariant-loop-rest l = spec.are_distinct l.attributes ≡ spec.are_distinct l.rest

abbrev pub decreases-loop-rest : goal.decreases-loop-rest
decreases-loop-rest l = length l.rest
