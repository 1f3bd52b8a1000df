-- How expressions are printed: the words of each construct in the grammar's order. All stand in one line.
use Rattle.std.specs.Prelude.{ℕ, [], ◌∷◌, ◌++◌}
use Rattle.std.specs.List.{flat_map}
use Rattle.vb_value.specs.declared.token.Keyword.TheVariants as k
use Rattle.vb_value.specs.declared.token.Symbol.TheVariants as s
use Rattle.vb_syntax.specs.declared.expression.Expression.{Expression}
use Rattle.vb_syntax.specs.declared.expression.Expression.TheOpen.{Expression-F, Operation-F, Path-F, Step-F}
use Rattle.vb_syntax.specs.declared.expression.Expression.TheFolds.{fold-Expression, fold-Operation, fold-Path}
use Rattle.vb_syntax.specs.declared.expression.Expression.TheFolds.{fold-Step}
use Rattle.vb_syntax.specs.declared.expression.Operation.{Operation}
use Rattle.vb_syntax.specs.declared.expression.Path.{Path}
use Rattle.vb_syntax.specs.declared.expression.PathHead.{PathHead}
use Rattle.vb_syntax.specs.declared.expression.PathHead.TheVariants as head
use Rattle.vb_syntax.specs.declared.expression.Step.{Step}
use Rattle.vb_syntax.specs.grammar.Rules.{Tokens}
use Rattle.vb_print.specs.Words.{printed, keyword, symbol, name, listed, literal_word, operator_word}

-- the head of a path
abbrev pub head_words : ℕ → PathHead → Tokens
head_words line (head.Name text) = name line text ∷ []
head_words line head.Me = keyword line k.Me ∷ []
head_words line (head.With text) = symbol line s.WithPoint ∷ name line text ∷ []

-- one expression, with the words of what is inside in its place
abbrev pub expression_layer : ℕ → Expression-F Tokens Tokens Tokens Tokens → Tokens
expression_layer line (Expression-F.Literal found) = printed line (literal_word found) ∷ []
expression_layer line Expression-F.Nothing = keyword line k.Nothing ∷ []
expression_layer line (Expression-F.New class) = keyword line k.New ∷ name line class ∷ []
expression_layer line (Expression-F.Path path) = path
expression_layer line (Expression-F.Parenthesis inner) = symbol line s.Open ∷ inner ++ symbol line s.Close ∷ []
expression_layer line (Expression-F.Negative operand) = symbol line s.Minus ∷ operand
expression_layer line (Expression-F.Not operand) = keyword line k.Not ∷ operand
expression_layer line (Expression-F.Chain first rest) = first ++ flat_map (λ (x : Tokens). x) rest

-- one operation: its operator and its right operand
abbrev pub operation_layer : ℕ → Operation-F Tokens Tokens Tokens Tokens → Tokens
operation_layer line operation = printed line (operator_word operation.operator) ∷ operation.operand

-- one path: its head and its steps
abbrev pub path_layer : ℕ → Path-F Tokens Tokens Tokens Tokens → Tokens
path_layer line path = head_words line path.head ++ flat_map (λ (x : Tokens). x) path.steps

-- one step of a path
abbrev pub step_layer : ℕ → Step-F Tokens Tokens Tokens Tokens → Tokens
step_layer line (Step-F.Member text) = symbol line s.PathPoint ∷ name line text ∷ []
step_layer line (Step-F.Group arguments) = symbol line s.Open ∷ listed line arguments ++ symbol line s.Close ∷ []

-- the words of an expression in a line
abbrev pub expression_words : ℕ → Expression → Tokens
expression_words line = fold-Expression Tokens Tokens Tokens Tokens
    (expression_layer line) (step_layer line) (operation_layer line) (path_layer line)

-- the words of a path in a line
abbrev pub path_words : ℕ → Path → Tokens
path_words line = fold-Path Tokens Tokens Tokens Tokens
    (expression_layer line) (step_layer line) (operation_layer line) (path_layer line)

-- the words of a path's step in a line
abbrev pub path_step_words : ℕ → Step → Tokens
path_step_words line = fold-Step Tokens Tokens Tokens Tokens
    (expression_layer line) (step_layer line) (operation_layer line) (path_layer line)

-- the words of an operation in a line
abbrev pub operation_words : ℕ → Operation → Tokens
operation_words line = fold-Operation Tokens Tokens Tokens Tokens
    (expression_layer line) (step_layer line) (operation_layer line) (path_layer line)
