-- Reading expressions: each reader is the rule of its name, and asks the next token alone.
use Rattle.std.specs.Prelude.{ℕ, zero, suc, Bool, true, false, ◌||◌, List, [], ◌∷◌, ◌==◌}
use Rattle.vb_value.specs.declared.token.Keyword.TheVariants as k
use Rattle.vb_value.specs.declared.token.Symbol.TheVariants as s
use Rattle.vb_value.specs.declared.token.TokenKind.TheVariants as kind
use Rattle.vb_syntax.specs.declared.expression.Expression.{Expression}
use Rattle.vb_syntax.specs.declared.expression.Expression.TheVariants as e
use Rattle.vb_syntax.specs.declared.expression.Operation.{Operation}
use Rattle.vb_syntax.specs.declared.expression.Path.{Path}
use Rattle.vb_syntax.specs.declared.expression.PathHead.{PathHead}
use Rattle.vb_syntax.specs.declared.expression.PathHead.TheVariants as head
use Rattle.vb_syntax.specs.declared.expression.Step.{Step}
use Rattle.vb_syntax.specs.declared.expression.Step.TheVariants as behind
use Rattle.vb_syntax.specs.grammar.Words.{name_of, literal_of}
use Rattle.vb_syntax.specs.grammar.Expressions.{operator_at, operation, chain, path_of, not_level, last_level}
use Rattle.vb_read.specs.Reader.{Reader, Look, ◌>>=◌, ◌>>◌, pure, refuse, one, keyword, symbol, sees, passes, case}
use Rattle.vb_read.specs.Reader.{gate, many, whole}

-- a comma and what stands behind it
abbrev pub comma_and : {A : Type 0} → Reader A → Reader A
comma_and thing = symbol s.Comma >> thing

-- things that each stand behind a comma
abbrev pub more_of : {A : Type 0} → Reader A → Reader (List A)
more_of thing = many (sees (kind.Symbol s.Comma)) (comma_and thing)

-- things with commas between
abbrev pub list_of : {A : Type 0} → Reader A → Reader (List A)
list_of thing = do
  first ← thing
  more ← more_of thing
  pure (first ∷ more)

-- an operator of the level, and its right operand
abbrev pub turn : ℕ → Reader Expression → Reader Operation
turn level operand = do
  operator ← one (operator_at level)
  right ← operand
  pure (operation operator right)

-- the operators of one level, with their right operands
abbrev pub turns : ℕ → Reader Expression → Reader (List Operation)
turns level operand = many (passes (operator_at level)) (turn level operand)

-- operators of one level
abbrev pub chained : ℕ → Reader Expression → Reader Expression
chained level operand = do
  first ← operand
  more ← turns level operand
  pure (chain first more)

-- the readers of the place inside an opened construct
pub record Inside : Type 0 where
  pub primary : Reader Expression
  pub negated : Reader Expression
  pub expression : Reader Expression

-- whether a path goes on
abbrev pub goes_on_path : Look
goes_on_path token = sees (kind.Symbol s.PathPoint) token || sees (kind.Symbol s.Open) token

abbrev pub path_head : Reader PathHead
path_head = case (passes name_of) (do name ← one name_of; pure (head.Name name))
    (case (sees (kind.Keyword k.Me)) (do keyword k.Me; pure head.Me)
    (do symbol s.WithPoint; name ← one name_of; pure (head.With name)))

abbrev pub literal : Reader Expression
literal = do found ← one literal_of; pure (e.Literal found)

abbrev pub nothing : Reader Expression
nothing = do keyword k.Nothing; pure e.Nothing

abbrev pub new : Reader Expression
new = do keyword k.New; class ← one name_of; pure (e.New class)

-- a word that is an operand by itself, or begins one without a construct
abbrev pub sees_leaf : Look
sees_leaf token = passes literal_of token || (sees (kind.Keyword k.Nothing) token || sees (kind.Keyword k.New) token)

abbrev pub leaf : Reader Expression
leaf = case (passes literal_of) literal (case (sees (kind.Keyword k.Nothing)) nothing new)

module _ (opens : Bool) (inside : Inside) where
  -- a "(" and all up to its ")"
  abbrev pub opened_group : Reader (List Expression)
  opened_group = do
    symbol s.Open
    arguments ← case (sees (kind.Symbol s.Close)) (pure []) (list_of inside.expression)
    symbol s.Close
    pure arguments

  abbrev pub group : Reader (List Expression)
  group = gate opens opened_group

  -- behind a path
  abbrev pub step : Reader Step
  step = case (sees (kind.Symbol s.PathPoint))
      (do symbol s.PathPoint; name ← one name_of; pure (behind.Member name))
      (do arguments ← group; pure (behind.Group arguments))

  abbrev pub steps : Reader (List Step)
  steps = many goes_on_path step

  abbrev pub path : Reader Path
  path = do head ← path_head; steps ← steps; pure (path_of head steps)

  abbrev pub reference : Reader Expression
  reference = do found ← path; pure (e.Path found)

  abbrev pub parenthesis : Reader Expression
  parenthesis = gate opens (do symbol s.Open; x ← inside.expression; symbol s.Close; pure (e.Parenthesis x))

  abbrev pub negative : Reader Expression
  negative = gate opens (do symbol s.Minus; x ← inside.primary; pure (e.Negative x))

  -- prim, by the token that it begins with
  abbrev pub primary : Reader Expression
  primary = case sees_leaf leaf
      (case (sees (kind.Symbol s.Open)) parenthesis
      (case (sees (kind.Symbol s.Minus)) negative reference))

  -- a `Not` and what it negates
  abbrev pub negated : Reader Expression
  negated = gate opens (do keyword k.Not; x ← inside.negated; pure (e.Not x))

  abbrev pub negation : Reader Expression → Reader Expression
  negation tighter = case (sees (kind.Keyword k.Not)) negated tighter

  abbrev pub one_level : Bool → ℕ → Reader Expression → Reader Expression
  one_level true level tighter = negation tighter
  one_level false level tighter = chained level tighter

  abbrev pub operators : ℕ → Reader Expression
  operators zero = primary
  operators (suc level) = one_level (suc level == not_level) (suc level) (operators level)

  abbrev pub expression : Reader Expression
  expression = operators last_level

  abbrev pub readers_here : Inside
  readers_here = record { primary = primary; negated = operators not_level; expression = expression }

-- nothing is read where nothing opens
abbrev pub closed : Inside
closed = record { primary = refuse; negated = refuse; expression = refuse }

-- the readers where this many more constructs may open
abbrev pub expressions : ℕ → Inside
expressions zero = readers_here false closed
expressions (suc depth) = readers_here true (expressions depth)
