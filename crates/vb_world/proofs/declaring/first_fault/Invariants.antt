use Rattle.std.proofs.Common.{◌≡◌, length}
use Rattle.vb_meaning.specs.Declaring.{first_fault}
use Rattle.vb_world.proofs.declaring.first_fault.Given as goal

abbrev pub invariant-loop-constants : goal.invariant-loop-constants
invariant-loop-constants l = first_fault l.fn.constants ≡ first_fault l.constants

abbrev pub decreases-loop-constants : goal.decreases-loop-constants
decreases-loop-constants l = length l.constants
