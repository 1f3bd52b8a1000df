use Rattle.std.proofs.Common.{◌≡◌, ◌+◌, ◌*◌, length, ◌∷◌, ◌++◌}
use Rattle.vb_read.specs.Reader as reader
use Rattle.vb_read.specs.ReadExpressions as spec
use Rattle.vb_read.specs.Depths.{opens, inside}
use Rattle.vb_read.proofs.expression.+expression.Given as goal

abbrev pub decreases-list : goal.decreases-list
decreases-list l = l.depth * 70 + 62

abbrev pub decreases-list_from : goal.decreases-list_from
decreases-list_from l = l.depth * 70 + 61

abbrev pub decreases-expression : goal.decreases-expression
decreases-expression l = l.depth * 70 + 59

abbrev pub decreases-not_operand : goal.decreases-not_operand
decreases-not_operand l = l.depth * 70 + 59

abbrev pub decreases-minus_operand : goal.decreases-minus_operand
decreases-minus_operand l = l.depth * 70 + 59

abbrev pub decreases-operators : goal.decreases-operators
decreases-operators l = l.depth * 70 + (10 + 4 * l.level)

abbrev pub decreases-chained : goal.decreases-chained
decreases-chained l = l.depth * 70 + (13 + 4 * l.level)

abbrev pub decreases-operations : goal.decreases-operations
decreases-operations l = l.depth * 70 + (12 + 4 * l.level)

abbrev pub decreases-operation : goal.decreases-operation
decreases-operation l = l.depth * 70 + (11 + 4 * l.level)

abbrev pub decreases-primary : goal.decreases-primary
decreases-primary l = l.depth * 70 + 9

abbrev pub decreases-path : goal.decreases-path
decreases-path l = l.depth * 70 + 8

abbrev pub decreases-steps : goal.decreases-steps
decreases-steps l = l.depth * 70 + 7

abbrev pub decreases-step : goal.decreases-step
decreases-step l = l.depth * 70 + 6

abbrev pub decreases-group : goal.decreases-group
decreases-group l = l.depth * 70 + 5

abbrev pub decreases-parenthesis : goal.decreases-parenthesis
decreases-parenthesis l = l.depth * 70 + 5

abbrev pub decreases-negative : goal.decreases-negative
decreases-negative l = l.depth * 70 + 5

abbrev pub decreases-negated : goal.decreases-negated
decreases-negated l = l.depth * 70 + 5

abbrev pub invariant-list_from-loop-alloc : goal.invariant-list_from-loop-alloc
invariant-list_from-loop-alloc l = (reader.◌>>=◌ (spec.more_of (spec.expressions l.fn.depth).expression)
    (λ more. reader.pure (l.fn.first ∷ more))) l.fn.cursor.rest.now
    ≡ reader.and_then (spec.more_of (spec.expressions l.fn.depth).expression l.cursor.rest.now)
    (λ more. reader.pure (l.found ++ more))

abbrev pub decreases-list_from-loop-alloc : goal.decreases-list_from-loop-alloc
decreases-list_from-loop-alloc l = length l.cursor.rest.now

abbrev pub invariant-steps-loop-alloc : goal.invariant-steps-loop-alloc
invariant-steps-loop-alloc l = spec.steps (opens l.fn.depth)
    (inside l.fn.depth) l.fn.cursor.rest.now ≡ reader.and_then (spec.steps (opens l.fn.depth)
    (inside l.fn.depth) l.cursor.rest.now) (λ more. reader.pure (l.found ++ more))

abbrev pub decreases-steps-loop-alloc : goal.decreases-steps-loop-alloc
decreases-steps-loop-alloc l = length l.cursor.rest.now

abbrev pub invariant-operations-loop-alloc : goal.invariant-operations-loop-alloc
invariant-operations-loop-alloc l = spec.turns (l.fn.level + 1) (spec.operators (opens l.fn.depth)
    (inside l.fn.depth) l.fn.level) l.fn.cursor.rest.now ≡ reader.and_then (spec.turns (l.fn.level + 1)
    (spec.operators (opens l.fn.depth) (inside l.fn.depth) l.fn.level) l.cursor.rest.now)
    (λ more. reader.pure (l.found ++ more))

abbrev pub decreases-operations-loop-alloc : goal.decreases-operations-loop-alloc
decreases-operations-loop-alloc l = length l.cursor.rest.now
