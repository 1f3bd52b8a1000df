use Rattle.std.proofs.Common.{◌≡◌, map, take}
use Rattle.vb_syntax.specs.scope.Shapes.{shape_of, ends_in_group}
use Rattle.vb_notes.proofs.notes.words.ends_in_group.Given as goal

abbrev pub invariant-loop-step : goal.invariant-loop-step
invariant-loop-step l = l.ended ≡ ends_in_group (map shape_of (take l.step-index l.steps))
