use Rattle.std.proofs.Common.{◌≡◌, map, take}
use Rattle.vb_syntax.specs.scope.Shapes.{shape_of}
use Rattle.vb_notes.proofs.notes.words.shapes.Given as goal

abbrev pub invariant-loop-step : goal.invariant-loop-step
invariant-loop-step l = l.shapes ≡ map shape_of (take l.step-index l.steps)
