use Rattle.std.proofs.Common.{◌≡◌, map, take}
use Rattle.vb_syntax.specs.declared.declaration.Parameter.{Parameter}
use Rattle.vb_scope.proofs.trees.units.by_value.Given as goal

abbrev pub invariant-loop-parameter : goal.invariant-loop-parameter
invariant-loop-parameter l = l.all ≡ map (λ (found : Parameter). found.by_value) (take l.parameter-index l.parameters)
