use Rattle.std.proofs.Common.{◌≡◌, ◌++◌, take}
use Rattle.std.specs.List.{flat_map}
use Rattle.vb_syntax.specs.scope.Notes as spec
use Rattle.vb_notes.proofs.notes.simple.note_variables.Given as goal

abbrev pub invariant-loop-variable : goal.invariant-loop-variable
invariant-loop-variable l = l.notes ≡ l.initial.notes
    ++ flat_map (spec.variable_notes l.line) (take l.variable-index l.variables)
