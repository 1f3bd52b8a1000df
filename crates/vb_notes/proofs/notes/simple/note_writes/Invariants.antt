use Rattle.std.proofs.Common.{◌≡◌, ◌++◌, take}
use Rattle.std.specs.List.{flat_map}
use Rattle.vb_syntax.specs.scope.Notes as spec
use Rattle.vb_notes.proofs.notes.simple.note_writes.Given as goal

abbrev pub invariant-loop-name : goal.invariant-loop-name
invariant-loop-name l = l.notes ≡ l.initial.notes
    ++ flat_map (spec.write_notes l.line) (take l.name-index l.names)
