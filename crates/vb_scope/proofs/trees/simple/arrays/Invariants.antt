use Rattle.std.proofs.Common.{◌≡◌, map, take}
use Rattle.vb_syntax.specs.scope.Trees as spec
use Rattle.vb_names.specs.Declarations.{scopes_seen}
use Rattle.vb_scope.proofs.trees.simple.arrays.Given as goal

abbrev pub invariant-loop-array : goal.invariant-loop-array
invariant-loop-array l =
    l.all ≡ map (spec.resized_of l.place.names.now (scopes_seen l.place.scopes)) (take l.array-index l.found)
