use Rattle.std.proofs.Common.{◌≡◌, refl, sym, ◌∙◌, ◌+◌, ◌-◌, arith}
use Rattle.vb_syntax.specs.grammar.Expressions.{operator_at}
use Rattle.vb_read.specs.Reader as reader
use Rattle.vb_read.specs.Reader.{and_then}
use Rattle.vb_read.specs.ReadExpressions as spec
use Rattle.vb_read.specs.Depths.{opens, inside}
use Rattle.vb_read.proofs.Turns.{found_turn, step_moves, turn_moves, expressions_at, operators_chained}
use Rattle.vb_read.proofs.Commas.{comma_less, comma_turn}
use Rattle.vb_read.proofs.ExpressionReading.{expressions_read}
use Rattle.vb_read.proofs.expression.+expression.Goals as goal

pub expression-returns : goal.expression-returns
expression-returns t c = rw (expressions_at c.args.depth) c.operators.ensures

pub not_operand-returns : goal.not_operand-returns
not_operand-returns t c = rw (expressions_at c.args.depth) c.operators.ensures

pub minus_operand-returns : goal.minus_operand-returns
minus_operand-returns t c = rw (expressions_at c.args.depth) c.primary.ensures

pub list_from-loop-alloc-smaller : goal.list_from-loop-alloc-smaller
list_from-loop-alloc-smaller t c = comma_less ((expressions_read c.args.depth).expression refl) _ _ _ _ _
    c.in_ok-symbol.ensures c.in_ok-expression.ensures

pub list_from-loop-alloc-preserved : goal.list_from-loop-alloc-preserved
list_from-loop-alloc-preserved t c = comma_turn ((expressions_read c.args.depth).expression refl) (λ l. l) _
    c.loop-alloc.found _ c.loop-alloc.cursor.rest.now _ _ _ _ c.loop-alloc.invariant (sym c.sees_symbol.ensures
    ∙ c.loop-alloc-test.true) c.in_ok-symbol.ensures c.in_ok-expression.ensures c.in_ok-push-2.ensures

pub steps-loop-alloc-smaller : goal.steps-loop-alloc-smaller
steps-loop-alloc-smaller t c = step_moves c.args.depth _ _ _ c.in_ok-step.ensures

pub steps-loop-alloc-preserved : goal.steps-loop-alloc-preserved
steps-loop-alloc-preserved t c = found_turn spec.goes_on_path (spec.step (opens c.args.depth)
    (inside c.args.depth)) (step_moves c.args.depth) refl (λ l. l) _ c.loop-alloc.found _
    c.loop-alloc.cursor.rest.now _ _ c.loop-alloc.invariant (sym c.goes_on_path.ensures
    ∙ c.loop-alloc-test.true) c.in_ok-step.ensures c.in_ok-push.ensures

pub operations-loop-alloc-smaller : goal.operations-loop-alloc-smaller
operations-loop-alloc-smaller t c = turn_moves c.args.depth c.args.level (omega arith)
    (omega arith) _ _ _ c.in_ok-operation.ensures

pub operations-loop-alloc-preserved : goal.operations-loop-alloc-preserved
operations-loop-alloc-preserved t c = found_turn (reader.passes (operator_at (c.args.level + 1)))
    (spec.turn (c.args.level + 1) (spec.operators (opens c.args.depth) (inside c.args.depth) c.args.level))
    (turn_moves c.args.depth c.args.level (omega arith)
    (omega arith)) refl (λ l. l) _ c.loop-alloc.found _ c.loop-alloc.cursor.rest.now _ _
    c.loop-alloc.invariant (sym c.sees_operator.ensures
    ∙ c.loop-alloc-test.true) c.in_ok-operation.ensures c.in_ok-push.ensures

pub negated-returns-then-depth-eq0 : goal.negated-returns-then-depth-eq0
negated-returns-then-depth-eq0 t c = let none : c.args.depth ≡ 0 = omega arith in rw none refl

pub negative-returns-then-depth-eq0 : goal.negative-returns-then-depth-eq0
negative-returns-then-depth-eq0 t c = let none : c.args.depth ≡ 0 = omega arith in rw none refl

pub parenthesis-returns-then-depth-eq0 : goal.parenthesis-returns-then-depth-eq0
parenthesis-returns-then-depth-eq0 t c = let none : c.args.depth ≡ 0 = omega arith in rw none refl

pub operators-returns-then-level-eq0 : goal.operators-returns-then-level-eq0
operators-returns-then-level-eq0 t c = let none : c.args.level ≡ 0 = omega arith in rw none c.primary.ensures

pub operators-returns-then-level-ne-NOT_LEVEL : goal.operators-returns-then-level-ne-NOT_LEVEL
operators-returns-then-level-ne-NOT_LEVEL t c = rw (operators_chained (opens c.args.depth)
    (inside c.args.depth) c.args.level (c.args.level - 1) (omega arith) (omega arith)) c.chained.ensures
