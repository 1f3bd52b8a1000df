use Rattle.std.proofs.Common.{◌≡◌, length}
use Rattle.vb_meaning.specs.Places.{indices_of, indices_from}
use Rattle.vb_world.proofs.places.indices_of.Given as goal

abbrev pub invariant-loop-values : goal.invariant-loop-values
invariant-loop-values l = indices_of l.fn.values ≡ indices_from l.indices l.values

abbrev pub decreases-loop-values : goal.decreases-loop-values
decreases-loop-values l = length l.values
