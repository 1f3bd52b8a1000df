-- The words of a chain of operators, from the fold that defines them.
use Rattle.std.proofs.Common.{◌≡◌, ℕ, List, ◌++◌, map, sym, ap, ◌∙◌}
use Rattle.std.specs.List.{flat_map}
use Rattle.vb_syntax.specs.declared.expression.Expression.{Expression}
use Rattle.vb_syntax.specs.declared.expression.Expression.TheFolds.{fold-roll-Expression}
use Rattle.vb_syntax.specs.declared.expression.Expression.TheOpen.{Expression-F}
use Rattle.vb_syntax.specs.declared.expression.Expression.TheVariants as e
use Rattle.vb_syntax.specs.declared.expression.Operation.{Operation}
use Rattle.vb_syntax.specs.grammar.Rules.{Tokens}
use Rattle.vb_print.specs.Expressions.{expression_layer, step_layer, operation_layer, path_layer}
use Rattle.vb_print.specs.Expressions.{expression_words, operation_words}

pub words-chain : (line : ℕ) (first : Expression) (rest : List Operation) → expression_words line (e.Chain first rest)
    ≡ expression_words line first ++ flat_map (λ (x : Tokens). x) (map (operation_words line) rest)
words-chain line first rest = ap (expression_words line) (sym (e.rolls-Chain first rest))
    ∙ fold-roll-Expression Tokens Tokens Tokens Tokens
    (expression_layer line) (step_layer line) (operation_layer line) (path_layer line) (Expression-F.Chain first rest)
