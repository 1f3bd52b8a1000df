use Rattle.std.proofs.Common.{◌≡◌, length}
use Rattle.vb_syntax.specs.scope.Trees as spec
use Rattle.vb_scope.proofs.trees.heads.only_groups.Given as goal

abbrev pub invariant-loop-steps : goal.invariant-loop-steps
invariant-loop-steps l = spec.only_groups l.steps ≡ spec.only_groups l.initial.steps

abbrev pub decreases-loop-steps : goal.decreases-loop-steps
decreases-loop-steps l = length l.steps
