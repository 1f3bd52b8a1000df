use Rattle.std.proofs.Common.{◌≡◌, length}
use Rattle.vb_syntax.specs.scope.Members as spec
use Rattle.vb_names.proofs.members.first_row.Given as goal

abbrev pub invariant-loop-rows : goal.invariant-loop-rows
invariant-loop-rows l = spec.first_row l.rows l.object l.is_group l.steps
    ≡ spec.first_row l.initial.rows l.object l.is_group l.steps

abbrev pub decreases-loop-rows : goal.decreases-loop-rows
decreases-loop-rows l = length l.rows
