use Rattle.std.proofs.Common.{◌≡◌, ◌++◌, map, take}
use Rattle.vb_syntax.specs.scope.Programs as spec
use Rattle.vb_scope.proofs.trees.members.push_declared_fields.Given as goal

abbrev pub invariant-loop-field : goal.invariant-loop-field
invariant-loop-field l = l.all ≡ l.initial.all
    ++ map (spec.field_of l.script.names.now l.line l.access)
    (take l.field-index l.fields)
