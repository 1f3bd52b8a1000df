use Rattle.std.proofs.Common.{◌≡◌, ◌++◌, take}
use Rattle.std.specs.List.{flat_map}
use Rattle.vb_syntax.specs.scope.Notes as spec
use Rattle.vb_notes.proofs.notes.simple.note_arrays.Given as goal

abbrev pub invariant-loop-array : goal.invariant-loop-array
invariant-loop-array l = l.notes ≡ l.initial.notes
    ++ flat_map (spec.resized_notes l.line l.around) (take l.array-index l.arrays)
