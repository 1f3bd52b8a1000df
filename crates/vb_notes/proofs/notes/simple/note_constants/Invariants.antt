use Rattle.std.proofs.Common.{◌≡◌, ◌++◌, take}
use Rattle.std.specs.List.{flat_map}
use Rattle.vb_syntax.specs.scope.Notes as spec
use Rattle.vb_notes.proofs.notes.simple.note_constants.Given as goal

abbrev pub invariant-loop-constant : goal.invariant-loop-constant
invariant-loop-constant l = l.notes ≡ l.initial.notes
    ++ flat_map (spec.constant_notes l.line) (take l.constant-index l.constants)
