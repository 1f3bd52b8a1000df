use Rattle.std.proofs.Common.{◌≡◌, ◌++◌, map, take}
use Rattle.std.specs.List.{flat_map}
use Rattle.vb_syntax.specs.declared.expression.Step.{Step}
use Rattle.vb_syntax.specs.scope.Notes as spec
use Rattle.vb_syntax.specs.scope.Notes.{Notes}
use Rattle.vb_notes.proofs.notes.expressions.+expressions.Given as goal

abbrev pub invariant-note_expressions-loop-expression : goal.invariant-note_expressions-loop-expression
invariant-note_expressions-loop-expression l = l.notes ≡ l.initial.notes
    ++ spec.expressions_notes l.line l.around (take l.expression-index l.expressions)

abbrev pub invariant-note_operations-loop-operation : goal.invariant-note_operations-loop-operation
invariant-note_operations-loop-operation l = l.notes ≡ l.initial.notes ++ flat_map (λ (x : Notes). x)
    (map (spec.operation_notes l.line l.around) (take l.operation-index l.operations))

abbrev pub invariant-note_steps-loop-step : goal.invariant-note_steps-loop-step
invariant-note_steps-loop-step l = l.notes ≡ l.initial.notes
    ++ flat_map (λ (step : Step). (spec.step_notes l.line l.around step).1) (take l.step-index l.steps)
