-- Expressions: which token lists spell which of them, where a number of constructs may open at one place.
-- The order of the operators is that of the VBScript 5.6 language reference, "Operator Precedence".
use Rattle.std.specs.Prelude.{ℕ, zero, suc, Bool, true, false, List, [], ◌∷◌, Option, Some, None, if◌then◌else◌, ◌==◌}
use Rattle.vb_value.specs.declared.operator.Op2.{Op2}
use Rattle.vb_value.specs.declared.operator.Op2.TheVariants as op
use Rattle.vb_value.specs.declared.token.Keyword.{Keyword}
use Rattle.vb_value.specs.declared.token.Keyword.TheVariants as k
use Rattle.vb_value.specs.declared.token.Symbol.{Symbol}
use Rattle.vb_value.specs.declared.token.Symbol.TheVariants as s
use Rattle.vb_value.specs.declared.token.Token.{Token}
use Rattle.vb_value.specs.declared.token.TokenKind.{TokenKind}
use Rattle.vb_value.specs.declared.token.TokenKind.TheVariants as kind
use Rattle.vb_syntax.specs.declared.expression.Expression.{Expression}
use Rattle.vb_syntax.specs.declared.expression.Expression.TheVariants as e
use Rattle.vb_syntax.specs.declared.expression.Operation.{Operation, roll-Operation}
use Rattle.vb_syntax.specs.declared.expression.Path.{Path, roll-Path}
use Rattle.vb_syntax.specs.declared.expression.PathHead.{PathHead}
use Rattle.vb_syntax.specs.declared.expression.PathHead.TheVariants as head
use Rattle.vb_syntax.specs.declared.expression.Step.{Step}
use Rattle.vb_syntax.specs.declared.expression.Step.TheVariants as behind
use Rattle.vb_syntax.specs.grammar.Rules.{Rule, pure, none, ◌>>=◌, ◌>>◌, ◌or◌, one, many, where_true}
use Rattle.vb_syntax.specs.grammar.Words.{keyword, symbol, list_of, name_of, literal_of}

-- ---- operators

-- the levels of the operators that are keywords, counted from the tightest
abbrev pub keyword_operator : Keyword → Option (ℕ × Op2)
keyword_operator k.Mod = Some (3, op.Modulo)
keyword_operator k.Is = Some (6, op.Is)
keyword_operator k.And = Some (8, op.And)
keyword_operator k.Or = Some (9, op.Or)
keyword_operator k.Xor = Some (10, op.Xor)
keyword_operator k.Eqv = Some (11, op.Eqv)
keyword_operator k.Imp = Some (12, op.Imp)
keyword_operator _ = None

-- the levels of the operators that are no words, counted from the tightest. Level 7 is that of `Not`.
abbrev pub symbol_operator : Symbol → Option (ℕ × Op2)
symbol_operator s.Star = Some (1, op.Multiply)
symbol_operator s.Backslash = Some (2, op.Divide)
symbol_operator s.Plus = Some (4, op.Add)
symbol_operator s.Minus = Some (4, op.Subtract)
symbol_operator s.Ampersand = Some (5, op.Join)
symbol_operator s.Equal = Some (6, op.Equal)
symbol_operator s.NotEqual = Some (6, op.Unequal)
symbol_operator s.Less = Some (6, op.Less)
symbol_operator s.Greater = Some (6, op.Greater)
symbol_operator s.AtMost = Some (6, op.AtMost)
symbol_operator s.AtLeast = Some (6, op.AtLeast)
symbol_operator _ = None

-- the level of an operator on two values, and which one it is
abbrev pub operator_of : TokenKind → Option (ℕ × Op2)
operator_of (kind.Keyword keyword) = keyword_operator keyword
operator_of (kind.Symbol symbol) = symbol_operator symbol
operator_of _ = None

-- the operator, if it is of the level
abbrev pub at_level : ℕ → Option (ℕ × Op2) → Option Op2
at_level level None = None
at_level level (Some found) = if found.0 == level then Some found.1 else None

-- an operator of the level
abbrev pub operator_at : ℕ → Token → Option Op2
operator_at level token = at_level level (operator_of token.kind)

-- the levels that have operators, and that of `Not` among them
abbrev pub not_level : ℕ
not_level = 7

abbrev pub last_level : ℕ
last_level = 12

-- ---- trees

-- an operator and its right operand
abbrev pub operation : Op2 → Expression → Operation
operation operator operand = roll-Operation (record { operator = operator; operand = operand })

-- an operand and the operations behind it
abbrev pub chain : Expression → List Operation → Expression
chain first [] = first
chain first (x ∷ more) = e.Chain first (x ∷ more)

-- a path of a head and what stands behind it
abbrev pub path_of : PathHead → List Step → Path
path_of head steps = roll-Path (record { head = head; steps = steps })

-- ---- rules

-- an operator of the level, and its right operand
abbrev pub turn : ℕ → Rule Expression → Rule Operation
turn level operand = do
  operator ← one (operator_at level)
  right ← operand
  pure (operation operator right)

-- operators of one level, which go from left to right
abbrev pub chained : ℕ → Rule Expression → Rule Expression
chained level operand = do
  first ← operand
  more ← many (turn level operand)
  pure (chain first more)

-- name | "Me" | "." name
abbrev pub path_head : Rule PathHead
path_head = (do name ← one name_of; pure (head.Name name))
    or (do keyword k.Me; pure head.Me)
    or (do symbol s.WithPoint; name ← one name_of; pure (head.With name))

-- a value that is written down, without "-"
abbrev pub literal : Rule Expression
literal = do found ← one literal_of; pure (e.Literal found)

-- "Nothing"
abbrev pub nothing : Rule Expression
nothing = do keyword k.Nothing; pure e.Nothing

-- "New" name
abbrev pub new : Rule Expression
new = do keyword k.New; class ← one name_of; pure (e.New class)

-- the rules of the place inside an opened construct
pub record Inside : Type 1 where
  pub primary : Rule Expression
  pub negated : Rule Expression
  pub expression : Rule Expression

-- `opens` tells whether one more construct may open here, and `inside` has the rules inside it.
module _ (opens : Bool) (inside : Inside) where
  -- "(" [ exprs ] ")"
  abbrev pub group : Rule (List Expression)
  group = where_true opens (do
    symbol s.Open
    arguments ← pure [] or list_of inside.expression
    symbol s.Close
    pure arguments)

  -- "." name | "(" [ exprs ] ")"
  abbrev pub step : Rule Step
  step = (do symbol s.PathPoint; name ← one name_of; pure (behind.Member name))
      or (do arguments ← group; pure (behind.Group arguments))

  -- path = ( name | "Me" | "." name ) { "(" [ exprs ] ")" | "." name }
  abbrev pub path : Rule Path
  path = do head ← path_head; steps ← many step; pure (path_of head steps)

  -- path
  abbrev pub reference : Rule Expression
  reference = do found ← path; pure (e.Path found)

  -- "(" expr ")"
  abbrev pub parenthesis : Rule Expression
  parenthesis = where_true opens (do
    symbol s.Open
    x ← inside.expression
    symbol s.Close
    pure (e.Parenthesis x))

  -- "-" prim
  abbrev pub negative : Rule Expression
  negative = where_true opens (do symbol s.Minus; x ← inside.primary; pure (e.Negative x))

  -- prim
  abbrev pub primary : Rule Expression
  primary = literal or nothing or new or reference or parenthesis or negative

  -- "Not" and what `Not` may stand before, or what is tighter
  abbrev pub negation : Rule Expression → Rule Expression
  negation tighter = where_true opens (do keyword k.Not; x ← inside.negated; pure (e.Not x)) or tighter

  -- what has operators of one level, and between them the tighter ones: the level of `Not`, or another
  abbrev pub one_level : Bool → ℕ → Rule Expression → Rule Expression
  one_level true level tighter = negation tighter
  one_level false level tighter = chained level tighter

  -- operators up to a level
  abbrev pub operators : ℕ → Rule Expression
  operators zero = primary
  operators (suc level) = one_level (suc level == not_level) (suc level) (operators level)

  -- expr = operators over primaries
  abbrev pub expression : Rule Expression
  expression = operators last_level

  -- the rules of this place
  abbrev pub rules_here : Inside
  rules_here = record { primary = primary; negated = operators not_level; expression = expression }

-- nothing stands where nothing opens
abbrev pub closed : Inside
closed = record { primary = none; negated = none; expression = none }

-- the rules where this many more constructs may open
abbrev pub expressions : ℕ → Inside
expressions zero = rules_here false closed
expressions (suc depth) = rules_here true (expressions depth)
