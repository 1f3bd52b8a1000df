-- Reading ends, and the statements of one line.
use Rattle.std.specs.Prelude.{ℕ, Bool, true, false, ◌||◌, List, [], ◌∷◌, ◌++◌, Some, None}
use Rattle.std.specs.declared.ops.ControlFlow.TheVariants.{Continue, Break}
use Rattle.vb_value.specs.declared.token.Keyword.{Keyword}
use Rattle.vb_value.specs.declared.token.Keyword.TheVariants as k
use Rattle.vb_value.specs.declared.token.Symbol.TheVariants as s
use Rattle.vb_value.specs.declared.token.TokenKind.{TokenKind}
use Rattle.vb_value.specs.declared.token.TokenKind.TheVariants as kind
use Rattle.vb_syntax.specs.declared.expression.Expression.{Expression}
use Rattle.vb_syntax.specs.declared.statement.Statement.{Statement}
use Rattle.vb_syntax.specs.declared.statement.StatementKind.TheVariants as st
use Rattle.vb_syntax.specs.grammar.SimpleStatements.{Looser, statement}
use Rattle.vb_syntax.specs.grammar.Statements.{break_of}
use Rattle.vb_read.specs.Reader.{Reader, Look, ◌>>=◌, ◌>>◌, pure, one, word, keyword, symbol, sees, passes, asks, case}
use Rattle.vb_read.specs.Reader.{gate, many, Turn, until}
use Rattle.vb_read.specs.ReadSimpleStatements.{keyword_begins_simple, kind_begins_simple, simple}
use Rattle.vb_read.specs.Depths.{opens, inside}

-- ---- ends

-- whether ":" or a line end comes next
abbrev pub breaks : Look
breaks = passes break_of

-- end
abbrev pub «end» : Reader (Unit {0})
«end» = do one break_of; many breaks (one break_of); pure tt

-- An end on whose first line nothing stands. In Rust two functions, since each has one loop: the colons, and the
-- breaks behind the line end.
abbrev pub colons : Reader (List ℕ)
colons = many (sees (kind.Symbol s.Colon)) (symbol s.Colon)

abbrev pub line_end : Reader (Unit {0})
line_end = do colons; word kind.LineEnd; many breaks (one break_of); pure tt

-- ---- what begins a statement of a line

abbrev pub keyword_begins_line_statement : Keyword → Bool
keyword_begins_line_statement k.If = true
keyword_begins_line_statement keyword = keyword_begins_simple keyword

abbrev pub kind_begins_line_statement : TokenKind → Bool
kind_begins_line_statement (kind.Keyword keyword) = keyword_begins_line_statement keyword
kind_begins_line_statement kind = kind_begins_simple kind

abbrev pub begins_line_statement : Look
begins_line_statement = asks kind_begins_line_statement

-- ---- lines

-- What was read of a line: its statements, whether an Else behind them would belong to an If in them, and whether
-- a ":" was taken behind them, so that neither an Else nor another statement of the line may follow.
abbrev pub LineRead : Type 0
LineRead = List Statement × Bool × Bool

-- the same of a one-line If
abbrev pub LastRead : Type 0
LastRead = Statement × Bool × Bool

-- what may stand inside an opened construct
pub record Blocks : Type 0 where
  pub block : Reader (List Statement)
  pub line : Reader LineRead

module _ (looser : Looser) (depth : ℕ) (inner : Blocks) where
  -- an expression inside a construct that opens here
  abbrev pub inside_expression : Reader Expression
  inside_expression = (inside depth).expression

  -- [ "Else" line ] behind the first branch of a one-line If, where an Else belongs to this If
  abbrev pub else_line : Bool → ℕ → Expression → LineRead → Reader LastRead
  else_line true line condition body = pure (statement line (st.LineIf condition body.0 None), true, body.2)
  else_line false line condition body = case (sees (kind.Keyword k.Else))
      (do
        keyword k.Else
        other ← inner.line
        pure (statement line (st.LineIf condition body.0 (Some other.0)), other.1, other.2))
      (pure (statement line (st.LineIf condition body.0 None), true, false))

  -- line [ "Else" line ] behind the "Then" of a one-line If
  abbrev pub line_if_from : ℕ → Expression → Reader LastRead
  line_if_from line condition = do
    body ← inner.line
    else_line (body.2 || body.1) line condition body

  -- "If" expr "Then" line [ "Else" line ]
  abbrev pub line_if_open : Reader LastRead
  line_if_open = do
    line ← keyword k.If
    condition ← inside_expression
    keyword k.Then
    line_if_from line condition

  -- the same, where one more construct may open
  abbrev pub line_if : Reader LastRead
  line_if = gate (opens depth) line_if_open

  -- Behind a statement of a line: a ":" and another statement, a ":" alone, which belongs to what ends the line,
  -- or nothing.
  abbrev pub behind_simple : Statement → Reader (Turn Statement LastRead)
  behind_simple found = case (sees (kind.Symbol s.Colon))
      (do
        symbol s.Colon
        case begins_line_statement (pure (Continue found)) (pure (Break (found, false, true))))
      (pure (Break (found, false, false)))

  -- a statement of a line, and whether another follows
  abbrev pub line_turn : Reader (Turn Statement LastRead)
  line_turn = case (sees (kind.Keyword k.If))
      (do found ← line_if; pure (Break found))
      (simple looser depth >>= behind_simple)

  -- What stands behind a one-line If belongs to its branches, so it is the last. In Rust one loop over the turns,
  -- which the last turn leaves; the length of a line needs no recursion.
  abbrev pub line : Reader LineRead
  line = do
    found ← until line_turn
    pure (found.0 ++ found.1.0 ∷ [], found.1.1, found.1.2)
