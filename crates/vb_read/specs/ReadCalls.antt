-- Reading what begins with a path: assignments and calls.
use Rattle.std.specs.Prelude.{ℕ, zero, suc, Bool, true, false, List, [], ◌∷◌, Option, Some, None, ◌==◌}
use Rattle.vb_value.specs.declared.token.Keyword.{Keyword}
use Rattle.vb_value.specs.declared.token.Keyword.TheVariants as k
use Rattle.vb_value.specs.declared.token.Symbol.{Symbol}
use Rattle.vb_value.specs.declared.token.Symbol.TheVariants as s
use Rattle.vb_value.specs.declared.token.TokenKind.{TokenKind}
use Rattle.vb_value.specs.declared.token.TokenKind.TheVariants as kind
use Rattle.vb_syntax.specs.declared.expression.Expression.{Expression}
use Rattle.vb_syntax.specs.declared.expression.Expression.TheVariants as e
use Rattle.vb_syntax.specs.declared.expression.Expression.TheOpen.{Step-F}
use Rattle.vb_syntax.specs.declared.expression.PathHead.{PathHead}
use Rattle.vb_syntax.specs.declared.expression.PathHead.TheVariants as head
use Rattle.vb_syntax.specs.declared.expression.Step.{Step, out-Step}
use Rattle.vb_syntax.specs.declared.statement.Statement.{Statement}
use Rattle.vb_syntax.specs.declared.statement.StatementKind.TheVariants as st
use Rattle.vb_syntax.specs.grammar.Words.{name_of}
use Rattle.vb_syntax.specs.grammar.Expressions.{chain, path_of, not_level, last_level}
use Rattle.vb_syntax.specs.grammar.SimpleStatements.{Looser, named_at, statement}
use Rattle.vb_read.specs.Reader.{Reader, Look, ◌>>=◌, ◌>>◌, pure, one, keyword, symbol, sees, passes, asks, case, gate}
use Rattle.vb_read.specs.ReadExpressions.{Inside, expressions, turns, operators, steps, list_of, more_of}
use Rattle.vb_read.specs.Depths.{opens, inside}

-- ---- paths

-- where a path begins, with its line
abbrev pub head_at : Reader (ℕ × PathHead)
head_at = case (passes name_of) (one named_at)
    (case (sees (kind.Keyword k.Me)) (do line ← keyword k.Me; pure (line, head.Me))
    (do line ← symbol s.WithPoint; name ← one name_of; pure (line, head.With name)))

-- the longest path, and the line on which it begins
abbrev pub path_at : ℕ → Reader (ℕ × PathHead × List Step)
path_at depth = do
  found ← head_at
  more ← steps (opens depth) (inside depth)
  pure (found.0, found.1, more)

-- What stands at the end of a path's steps: no parenthesis, or one, with the steps before it. In Rust the last
-- step is popped off the list, and looked at.
pub data Tail : Type 0 where
  plain : Tail
  grouped : List Step → List Expression → Tail

abbrev pub group_of_layer : {E O P S : Type 0} → Step-F E O P S → Option (List E)
group_of_layer (Step-F.Member name) = None
group_of_layer (Step-F.Group arguments) = Some arguments

abbrev pub tail_of_last : Option (List Expression) → Tail
tail_of_last None = plain
tail_of_last (Some arguments) = grouped [] arguments

abbrev pub tail_behind : Step → Tail → Tail
tail_behind first plain = plain
tail_behind first (grouped more arguments) = grouped (first ∷ more) arguments

abbrev pub tail : List Step → Tail
tail [] = plain
tail (last ∷ []) = tail_of_last (group_of_layer (out-Step last))
tail (first ∷ next ∷ more) = tail_behind first (tail (next ∷ more))

-- ---- an expression of which the first operand is known

module _ (opens : Bool) (inside : Inside) where
  -- The operators of one level behind a first operand. `Not` is none that could stand there.
  abbrev pub level_from : Bool → ℕ → Reader Expression → Expression → Reader Expression
  level_from true level operand first = pure first
  level_from false level operand first = do more ← turns level operand; pure (chain first more)

  -- Operators up to a level behind a first operand. In Rust a loop over the levels, from the tightest.
  abbrev pub operators_from : ℕ → Expression → Reader Expression
  operators_from zero first = pure first
  operators_from (suc level) first = operators_from level first
      >>= level_from (suc level == not_level) (suc level) (operators opens inside level)

-- ---- what begins an expression

abbrev pub keyword_begins_expression : Keyword → Bool
keyword_begins_expression k.True = true
keyword_begins_expression k.False = true
keyword_begins_expression k.Empty = true
keyword_begins_expression k.Null = true
keyword_begins_expression k.Nothing = true
keyword_begins_expression k.New = true
keyword_begins_expression k.Me = true
keyword_begins_expression k.Not = true
keyword_begins_expression _ = false

abbrev pub symbol_begins_expression : Symbol → Bool
symbol_begins_expression s.WithPoint = true
symbol_begins_expression s.Open = true
symbol_begins_expression s.Minus = true
symbol_begins_expression _ = false

abbrev pub kind_begins_expression : TokenKind → Bool
kind_begins_expression (kind.Keyword keyword) = keyword_begins_expression keyword
kind_begins_expression (kind.Symbol symbol) = symbol_begins_expression symbol
kind_begins_expression (kind.Name text bracketed) = true
kind_begins_expression (kind.Integer number) = true
kind_begins_expression (kind.Long number) = true
kind_begins_expression (kind.String text) = true
kind_begins_expression _ = false

abbrev pub begins_expression : Look
begins_expression = asks kind_begins_expression

-- ---- statements that begin with a path

-- an expression of this place
abbrev pub expression : ℕ → Reader Expression
expression depth = (expressions depth).expression

-- "=" expr
abbrev pub value_behind : ℕ → Reader Expression
value_behind depth = symbol s.Equal >> expression depth

-- [ exprs ]
abbrev pub arguments : ℕ → Reader (List Expression)
arguments depth = case begins_expression (list_of (expression depth)) (pure [])

module _ (looser : Looser) (depth : ℕ) where
  -- The arguments, where what a parenthesis holds was read as the end of the path: nothing, the beginning of the
  -- first argument, or, where that is allowed, several of them.
  abbrev pub arguments_from : List Expression → Reader (List Expression)
  arguments_from [] = pure []
  arguments_from (held ∷ []) = do
    first ← operators_from (opens depth) (inside depth) last_level (e.Parenthesis held)
    more ← more_of (expression depth)
    pure (first ∷ more)
  arguments_from (first ∷ next ∷ more) = gate looser.several (pure (first ∷ next ∷ more))

  -- the arguments behind a path, and the statement
  abbrev pub call_from : ℕ → PathHead → List Step → Tail → Reader Statement
  call_from line head more plain = do
    given ← arguments depth
    pure (statement line (st.Call (path_of head more) given))
  call_from line head more (grouped front held) = do
    given ← arguments_from held
    pure (statement line (st.Call (path_of head front) given))

  -- what stands behind the longest path
  abbrev pub path_behind : ℕ × PathHead × List Step → Reader Statement
  path_behind target = case (sees (kind.Symbol s.Equal))
      (do value ← value_behind depth; pure (statement target.0 (st.Assign (path_of target.1 target.2) value)))
      (call_from target.0 target.1 target.2 (tail target.2))

  -- path "=" expr | path [ exprs ]
  abbrev pub from_path : Reader Statement
  from_path = path_at depth >>= path_behind
