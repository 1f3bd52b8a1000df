-- Statements that hold others, lines and blocks: which token lists spell which of them.
use Rattle.std.specs.Prelude.{ℕ, zero, suc, Bool, true, false, not, ◌||◌, List, [], ◌∷◌, ◌++◌, Option, Some, None}
use Rattle.std.specs.Prelude.{if◌then◌else◌, ◌==◌, codes}
use Rattle.std.specs.List.{list_all}
use Rattle.vb_value.specs.Characters.{carriage_return, is_blank, line_feed}
use Rattle.vb_value.specs.declared.token.Keyword.TheVariants as k
use Rattle.vb_value.specs.declared.token.Symbol.TheVariants as s
use Rattle.vb_value.specs.declared.token.Token.{Token}
use Rattle.vb_value.specs.declared.token.TokenKind.{TokenKind}
use Rattle.vb_value.specs.declared.token.TokenKind.TheVariants as kind
use Rattle.vb_syntax.specs.declared.expression.Expression.{Expression}
use Rattle.vb_syntax.specs.declared.statement.Case.{Case, roll-Case}
use Rattle.vb_syntax.specs.declared.statement.Condition.{Condition}
use Rattle.vb_syntax.specs.declared.statement.ElseIf.{ElseIf, roll-ElseIf}
use Rattle.vb_syntax.specs.declared.statement.Repetition.TheVariants as repetition
use Rattle.vb_syntax.specs.declared.statement.Statement.{Statement}
use Rattle.vb_syntax.specs.declared.statement.StatementKind.TheVariants as st
use Rattle.vb_syntax.specs.grammar.Rules.{Rule, none, pure, ◌>>=◌, ◌>>◌, ◌or◌, one, many, where_true}
use Rattle.vb_syntax.specs.grammar.Words.{tag, word, keyword, symbol, list_of, name_of}
use Rattle.vb_syntax.specs.grammar.Declarations.{opened}
use Rattle.vb_syntax.specs.grammar.Expressions.{expressions}
use Rattle.vb_syntax.specs.grammar.SimpleStatements.{Looser, quoted, statement, const, simple}

-- ---- ends

-- ":" or a line end
abbrev pub break_of : Token → Option (Unit {0})
break_of token =
    if tag token.kind == tag (kind.Symbol s.Colon) || tag token.kind == tag kind.LineEnd then Some tt else None

-- end = one or more of ":" and line end
abbrev pub «end» : Rule (Unit {0})
«end» = do one break_of; many (one break_of); pure tt

-- an end on whose first line nothing stands
abbrev pub line_end : Rule (Unit {0})
line_end = do many (symbol s.Colon); word kind.LineEnd; many (one break_of); pure tt

-- ---- what may stand in a place

-- the statements of a line, and whether an Else behind them would belong to an If in them
pub record Line : Type 0 where
  pub statements : List Statement
  pub takes_else : Bool

-- what may stand inside an opened construct
pub record Blocks : Type 1 where
  pub block : Rule (List Statement)
  pub line : Rule Line

-- ---- texts of the page between words that no statement may part

-- a blank, or a character of a line end
abbrev pub says_nothing : ℕ → Bool
says_nothing character = is_blank character || (character == line_feed || character == carriage_return)

-- whether a kind of word is a text of blanks and line ends alone, or any text where that is allowed
abbrev pub passed_kind : Bool → TokenKind → Option (Unit {0})
passed_kind any (kind.PageText text) = if any || list_all says_nothing text then Some tt else None
passed_kind any _ = None

abbrev pub passed : Bool → Token → Option (Unit {0})
passed any token = passed_kind any token.kind

-- a text that leaves nothing in the tree, and its end
abbrev pub passed_text : Bool → Rule (Unit {0})
passed_text any = do one (passed any); «end»

-- any number of them
abbrev pub passed_texts : Bool → Rule (Unit {0})
passed_texts any = do many (passed_text any); pure tt

-- ---- rules

-- `depth` more constructs may open here, and `inner` is what may stand inside the next one.
module _ (looser : Looser) (depth : ℕ) (inner : Blocks) where
  -- an expression inside a construct that opens here
  abbrev pub inside : Rule Expression
  inside = opened depth (λ within. (expressions within).expression)

  -- "If" expr "Then" line [ "Else" line ] on one line. An Else belongs to the nearest If.
  abbrev pub line_if : Rule (Statement × Bool)
  line_if = do
    line ← keyword k.If
    condition ← inside
    keyword k.Then
    body ← inner.line
    (pure (statement line (st.LineIf condition body.statements None), true))
        or (where_true (not body.takes_else) (do
          keyword k.Else
          other ← inner.line
          pure (statement line (st.LineIf condition body.statements (Some other.statements)), other.takes_else)))

  -- line = stmt { ":" stmt }. What stands behind a one-line If belongs to its branches, so it is the last.
  abbrev pub line : Rule Line
  line = do
    first ← many (do found ← simple looser depth; symbol s.Colon; pure found)
    last ← (do found ← simple looser depth; pure (found, false)) or line_if
    pure (record { statements = first ++ last.0 ∷ []; takes_else = last.1 })

  -- [ "Else" end block ]
  abbrev pub else_part : Rule (Option (List Statement))
  else_part = (do keyword k.Else; «end»; body ← inner.block; pure (Some body)) or pure None

  -- "ElseIf" expr "Then" end block
  abbrev pub else_if : Rule ElseIf
  else_if = do
    line ← keyword k.ElseIf
    condition ← inside
    keyword k.Then
    «end»
    body ← inner.block
    pure (roll-ElseIf (record { line = line; condition = condition; then = body }))

  -- "If" expr "Then" end block { "ElseIf" expr "Then" end block } [ "Else" end block ] "End" "If"
  abbrev pub block_if : Rule Statement
  block_if = do
    line ← keyword k.If
    condition ← inside
    keyword k.Then
    «end»
    body ← inner.block
    others ← many else_if
    otherwise ← else_part
    keyword k.End
    keyword k.If
    pure (statement line (st.If condition body others otherwise))

  -- "Case" exprs end block
  abbrev pub case : Rule Case
  case = do
    line ← keyword k.Case
    values ← list_of inside
    «end»
    body ← inner.block
    pure (roll-Case (record { line = line; values = values; body = body }))

  -- [ "Case" "Else" end block ]
  abbrev pub case_else : Rule (Option (List Statement))
  case_else = (do keyword k.Case; keyword k.Else; «end»; body ← inner.block; pure (Some body)) or pure None

  -- "Select" "Case" expr end { "Case" exprs end block } [ "Case" "Else" end block ] "End" "Select", with blank texts
  -- before the first "Case"
  abbrev pub select : Rule Statement
  select = do
    line ← keyword k.Select
    keyword k.Case
    subject ← inside
    «end»
    passed_texts looser.texts
    cases ← many case
    otherwise ← case_else
    keyword k.End
    keyword k.Select
    pure (statement line (st.Select subject cases otherwise))

  -- "For" name "=" expr "To" expr [ "Step" expr ] end block "Next"
  abbrev pub for : Rule Statement
  for = do
    line ← keyword k.For
    variable ← one name_of
    symbol s.Equal
    from ← inside
    keyword k.To
    to ← inside
    by ← (do quoted (codes "step"); found ← inside; pure (Some found)) or pure None
    «end»
    body ← inner.block
    keyword k.Next
    pure (statement line (st.For variable from to by body))

  -- "For" "Each" name "In" expr end block "Next"
  abbrev pub for_each : Rule Statement
  for_each = do
    line ← keyword k.For
    keyword k.Each
    variable ← one name_of
    keyword k.In
    group ← inside
    «end»
    body ← inner.block
    keyword k.Next
    pure (statement line (st.ForEach variable group body))

  -- ( "While" | "Until" ), with its line, and whether it is the second
  abbrev pub loop_word : Rule (ℕ × Bool)
  loop_word = (do line ← keyword k.While; pure (line, false))
      or (do line ← keyword k.Until; pure (line, true))

  -- cond = ( "While" | "Until" ) expr
  abbrev pub condition : Rule Expression → Rule (ℕ × Condition)
  condition expression = do
    found ← loop_word
    test ← expression
    pure (found.0, record { is_until = found.1; test = test })

  -- "Do" end block "Loop", or with one cond behind "Do" or behind "Loop". The second is outside of the loop.
  abbrev pub do_loop : Rule Statement
  do_loop = do
    line ← keyword k.Do
    (do
      found ← condition inside
      «end»
      body ← inner.block
      keyword k.Loop
      pure (statement line (st.Do (repetition.Before found.1) body)))
        or (do
          «end»
          body ← inner.block
          keyword k.Loop
          repeated ← pure repetition.Endless or (do
            found ← condition (expressions depth).expression
            pure (repetition.After found.0 found.1))
          pure (statement line (st.Do repeated body)))

  -- "While" expr end block "Wend"
  abbrev pub while : Rule Statement
  while = do
    line ← keyword k.While
    condition ← inside
    «end»
    body ← inner.block
    keyword k.Wend
    pure (statement line (st.While condition body))

  -- "With" expr end block "End" "With"
  abbrev pub with_block : Rule Statement
  with_block = do
    line ← keyword k.With
    subject ← inside
    «end»
    body ← inner.block
    keyword k.End
    keyword k.With
    pure (statement line (st.With subject body))

  -- a statement that holds others, on several lines
  abbrev pub compound : Rule Statement
  compound = block_if or select or for or for_each or do_loop or while or with_block

  -- a statement or a constant, and the end behind it. What stands behind a one-line If ends with a line end.
  abbrev pub sentence : Rule Statement
  sentence = (do found ← const looser depth or compound or simple looser depth; «end»; pure found)
      or (do found ← line_if; line_end; pure found.0)

  -- block = { ( stmt | const ) end }
  abbrev pub block : Rule (List Statement)
  block = many sentence

  -- what may stand here
  abbrev pub blocks_here : Blocks
  blocks_here = record { block = block; line = line }

-- nothing stands inside where nothing opens
abbrev pub no_blocks : Blocks
no_blocks = record { block = none; line = none }

-- the rules where this many more constructs may open
abbrev pub blocks : Looser → ℕ → Blocks
blocks looser zero = blocks_here looser zero no_blocks
blocks looser (suc depth) = blocks_here looser (suc depth) (blocks looser depth)

-- what may stand inside a construct that opens here
abbrev pub blocks_inside : Looser → ℕ → Blocks
blocks_inside looser zero = no_blocks
blocks_inside looser (suc depth) = blocks looser depth
