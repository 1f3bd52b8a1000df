use Rattle.std.proofs.Common.{◌≡◌, map, take}
use Rattle.vb_syntax.specs.scope.Trees as spec
use Rattle.vb_names.specs.Declarations.{scopes_seen}
use Rattle.vb_scope.proofs.trees.simple.targets.Given as goal

abbrev pub invariant-loop-name : goal.invariant-loop-name
invariant-loop-name l =
    l.all ≡ map (spec.target_of l.place.names.now (scopes_seen l.place.scopes)) (take l.name-index l.names)
