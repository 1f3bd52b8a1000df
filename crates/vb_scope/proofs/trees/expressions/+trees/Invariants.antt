use Rattle.std.proofs.Common.{◌≡◌, ◌++◌, drop, map, take}
use Rattle.vb_syntax.specs.scope.Trees as spec
use Rattle.vb_names.specs.Declarations.{scopes_seen}
use Rattle.vb_scope.proofs.trees.expressions.+trees.Given as goal

abbrev pub invariant-expressions-loop-one : goal.invariant-expressions-loop-one
invariant-expressions-loop-one l =
    l.all ≡ map (spec.expression_of l.place.names.now (scopes_seen l.place.scopes)) (take l.one-index l.found)

abbrev pub invariant-operations-loop-operation : goal.invariant-operations-loop-operation
invariant-operations-loop-operation l =
    l.all ≡ map (spec.operation_of l.place.names.now (scopes_seen l.place.scopes)) (take l.operation-index l.found)

abbrev pub invariant-kept-loop-found : goal.invariant-kept-loop-found
invariant-kept-loop-found l = l.all
    ++ spec.kept l.count
    (map (spec.step_of l.place.names.now (scopes_seen l.place.scopes)) (drop l.found-index l.steps))
    ≡ spec.kept l.initial.count (map (spec.step_of l.place.names.now (scopes_seen l.place.scopes)) l.steps)
