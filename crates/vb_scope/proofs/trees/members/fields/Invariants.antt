use Rattle.std.proofs.Common.{◌≡◌, take}
use Rattle.std.specs.List.{flat_map}
use Rattle.vb_syntax.specs.scope.Programs as spec
use Rattle.vb_scope.proofs.trees.members.fields.Given as goal

abbrev pub invariant-loop-member : goal.invariant-loop-member
invariant-loop-member l = l.all
    ≡ flat_map (spec.fields_of l.script.names.now)
    (take l.member-index l.members)
