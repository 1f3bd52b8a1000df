use Rattle.std.proofs.Common.{◌≡◌, length}
use Rattle.std.specs.List.{flat_map, position_from}
use Rattle.vb_syntax.specs.scope.Programs as spec
use Rattle.vb_scope.proofs.trees.members.sub_number.Given as goal

abbrev pub invariant-loop-members : goal.invariant-loop-members
invariant-loop-members l = position_from (spec.is_named l.word) l.number (flat_map spec.sub_in l.members)
    ≡ spec.sub_number l.word l.initial.members

abbrev pub decreases-loop-members : goal.decreases-loop-members
decreases-loop-members l = length l.members
