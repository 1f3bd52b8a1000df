use Rattle.std.proofs.Common.{◌≡◌, ◌∷◌, ◌++◌, map, take}
use Rattle.std.specs.List.{flat_map}
use Rattle.vb_value.specs.declared.token.Symbol.TheVariants as s
use Rattle.vb_syntax.specs.grammar.Rules.{Tokens}
use Rattle.vb_print.specs.Words.{symbol}
use Rattle.vb_print.specs.Expressions as spec
use Rattle.vb_print.proofs.expressions.+expressions.Given as goal

abbrev pub invariant-print_expressions-loop-expression :
    goal.invariant-print_expressions-loop-expression
invariant-print_expressions-loop-expression l = l.words ≡ l.initial.words ++ flat_map (λ (x : Tokens). symbol l.line
    s.Comma ∷ x) (map (spec.expression_words l.line) (take l.expression-index l.more))

abbrev pub invariant-print_operations-loop-operation :
    goal.invariant-print_operations-loop-operation
invariant-print_operations-loop-operation l = l.words ≡ l.initial.words ++ flat_map (λ (x : Tokens). x)
    (map (spec.operation_words l.line) (take l.operation-index l.operations))

abbrev pub invariant-print_path-loop-step : goal.invariant-print_path-loop-step
invariant-print_path-loop-step l = l.words ≡ l.initial.words ++ flat_map (λ (x : Tokens). x)
    (map (spec.path_step_words l.line) (take l.step-index l.step-items))
