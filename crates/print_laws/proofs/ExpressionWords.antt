-- The words of each form of an expression, from the fold that defines them.
use Rattle.std.proofs.Common.{◌≡◌, ℕ, List, [], ◌∷◌, ◌++◌, map, sym, ap, ◌∙◌}
use Rattle.std.specs.List.{flat_map}
use Rattle.vb_value.specs.declared.operator.Op2.{Op2}
use Rattle.vb_value.specs.declared.token.Keyword.TheVariants as k
use Rattle.vb_value.specs.declared.token.Symbol.TheVariants as s
use Rattle.vb_syntax.specs.declared.expression.Expression.{Expression}
use Rattle.vb_syntax.specs.declared.expression.Expression.TheFolds.{fold-roll-Expression, fold-roll-Operation}
use Rattle.vb_syntax.specs.declared.expression.Expression.TheFolds.{fold-roll-Path, fold-roll-Step}
use Rattle.vb_syntax.specs.declared.expression.Expression.TheOpen.{Expression-F, Step-F}
use Rattle.vb_syntax.specs.declared.expression.Expression.TheVariants as e
use Rattle.vb_syntax.specs.declared.expression.Literal.{Literal}
use Rattle.vb_syntax.specs.declared.expression.Path.{Path}
use Rattle.vb_syntax.specs.declared.expression.PathHead.{PathHead}
use Rattle.vb_syntax.specs.declared.expression.Step.{Step}
use Rattle.vb_syntax.specs.declared.expression.Step.TheVariants as behind
use Rattle.vb_syntax.specs.grammar.Rules.{Tokens}
use Rattle.vb_syntax.specs.grammar.Expressions.{operation, path_of}
use Rattle.vb_print.specs.Words.{printed, keyword, symbol, name, listed, literal_word, operator_word}
use Rattle.vb_print.specs.Expressions.{head_words, expression_layer, step_layer, operation_layer, path_layer}
use Rattle.vb_print.specs.Expressions.{expression_words, path_words, path_step_words, operation_words}

module _ (line : ℕ) where
  pub words-literal : (found : Literal) → expression_words line (e.Literal found)
      ≡ printed line (literal_word found) ∷ []
  words-literal found = ap (expression_words line) (sym (e.rolls-Literal found))
      ∙ fold-roll-Expression Tokens Tokens Tokens Tokens
      (expression_layer line) (step_layer line) (operation_layer line) (path_layer line) (Expression-F.Literal found)

  pub words-nothing : expression_words line e.Nothing
      ≡ keyword line k.Nothing ∷ []
  words-nothing = ap (expression_words line) (sym e.rolls-Nothing)
      ∙ fold-roll-Expression Tokens Tokens Tokens Tokens
      (expression_layer line) (step_layer line) (operation_layer line) (path_layer line) Expression-F.Nothing

  pub words-new : (class : List ℕ) → expression_words line (e.New class)
      ≡ keyword line k.New ∷ name line class ∷ []
  words-new class = ap (expression_words line) (sym (e.rolls-New class))
      ∙ fold-roll-Expression Tokens Tokens Tokens Tokens
      (expression_layer line) (step_layer line) (operation_layer line) (path_layer line) (Expression-F.New class)

  pub words-reference : (path : Path) → expression_words line (e.Path path)
      ≡ path_words line path
  words-reference path = ap (expression_words line) (sym (e.rolls-Path path))
      ∙ fold-roll-Expression Tokens Tokens Tokens Tokens
      (expression_layer line) (step_layer line) (operation_layer line) (path_layer line) (Expression-F.Path path)

  pub words-parenthesis : (inner : Expression) → expression_words line (e.Parenthesis inner)
      ≡ symbol line s.Open ∷ expression_words line inner ++ symbol line s.Close ∷ []
  words-parenthesis inner = ap (expression_words line) (sym (e.rolls-Parenthesis inner))
      ∙ fold-roll-Expression Tokens Tokens Tokens Tokens
      (expression_layer line) (step_layer line) (operation_layer line) (path_layer line)
      (Expression-F.Parenthesis inner)

  pub words-negative : (operand : Expression) → expression_words line (e.Negative operand)
      ≡ symbol line s.Minus ∷ expression_words line operand
  words-negative operand = ap (expression_words line) (sym (e.rolls-Negative operand))
      ∙ fold-roll-Expression Tokens Tokens Tokens Tokens
      (expression_layer line) (step_layer line) (operation_layer line) (path_layer line) (Expression-F.Negative operand)

  pub words-not : (operand : Expression) → expression_words line (e.Not operand)
      ≡ keyword line k.Not ∷ expression_words line operand
  words-not operand = ap (expression_words line) (sym (e.rolls-Not operand))
      ∙ fold-roll-Expression Tokens Tokens Tokens Tokens
      (expression_layer line) (step_layer line) (operation_layer line) (path_layer line) (Expression-F.Not operand)

  pub words-member : (text : List ℕ) → path_step_words line (behind.Member text)
      ≡ symbol line s.PathPoint ∷ name line text ∷ []
  words-member text = ap (path_step_words line) (sym (behind.rolls-Member text))
      ∙ fold-roll-Step Tokens Tokens Tokens Tokens
      (expression_layer line) (step_layer line) (operation_layer line) (path_layer line) (Step-F.Member text)

  pub words-group : (arguments : List Expression) → path_step_words line (behind.Group arguments)
      ≡ symbol line s.Open ∷ listed line (map (expression_words line) arguments) ++ symbol line s.Close ∷ []
  words-group arguments = ap (path_step_words line) (sym (behind.rolls-Group arguments))
      ∙ fold-roll-Step Tokens Tokens Tokens Tokens
      (expression_layer line) (step_layer line) (operation_layer line) (path_layer line) (Step-F.Group arguments)

  pub words-operation : (operator : Op2) (operand : Expression) → operation_words line (operation operator operand)
      ≡ printed line (operator_word operator) ∷ expression_words line operand
  words-operation operator operand = fold-roll-Operation Tokens Tokens Tokens Tokens
      (expression_layer line) (step_layer line) (operation_layer line) (path_layer line)
      (record { operator = operator; operand = operand })

  pub words-path : (head : PathHead) (steps : List Step) → path_words line (path_of head steps)
      ≡ head_words line head ++ flat_map (λ (x : Tokens). x) (map (path_step_words line) steps)
  words-path head steps = fold-roll-Path Tokens Tokens Tokens Tokens
      (expression_layer line) (step_layer line) (operation_layer line) (path_layer line)
      (record { head = head; steps = steps })
