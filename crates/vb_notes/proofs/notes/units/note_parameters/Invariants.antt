use Rattle.std.proofs.Common.{◌≡◌, ◌++◌, take}
use Rattle.std.specs.List.{flat_map}
use Rattle.vb_syntax.specs.scope.Units as spec
use Rattle.vb_notes.proofs.notes.units.note_parameters.Given as goal

abbrev pub invariant-loop-parameter : goal.invariant-loop-parameter
invariant-loop-parameter l = l.notes ≡ l.initial.notes
    ++ flat_map (spec.parameter_notes l.line) (take l.parameter-index l.parameters)
