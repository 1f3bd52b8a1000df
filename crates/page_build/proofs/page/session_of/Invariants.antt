use Rattle.std.proofs.Common.{◌≡◌, length}
use Rattle.page_build.specs.Building.{session_of}
use Rattle.page_build.proofs.page.session_of.Given as goal

abbrev pub invariant-loop-rest : goal.invariant-loop-rest
invariant-loop-rest l = session_of l.rest ≡ session_of l.fn.parts

abbrev pub decreases-loop-rest : goal.decreases-loop-rest
decreases-loop-rest l = length l.rest
