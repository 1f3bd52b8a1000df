-- Reading statements that hold others, and blocks: each reader is the rule of its name, and asks the next token
-- alone. A rule that begins as another one does has its readers from where the two part.
use Rattle.std.specs.Prelude.{ℕ, zero, suc, Bool, true, false, ◌||◌, List, [], Option, Some, None, codes}
use Rattle.std.specs.declared.ops.ControlFlow.TheVariants.{Continue, Break}
use Rattle.vb_value.specs.declared.token.Keyword.{Keyword}
use Rattle.vb_value.specs.declared.token.Keyword.TheVariants as k
use Rattle.vb_value.specs.declared.token.Symbol.TheVariants as s
use Rattle.vb_value.specs.declared.token.TokenKind.{TokenKind}
use Rattle.vb_value.specs.declared.token.TokenKind.TheVariants as kind
use Rattle.vb_syntax.specs.declared.expression.Expression.{Expression}
use Rattle.vb_syntax.specs.declared.statement.Case.{Case, roll-Case}
use Rattle.vb_syntax.specs.declared.statement.Condition.{Condition}
use Rattle.vb_syntax.specs.declared.statement.ElseIf.{ElseIf, roll-ElseIf}
use Rattle.vb_syntax.specs.declared.statement.Repetition.{Repetition}
use Rattle.vb_syntax.specs.declared.statement.Repetition.TheVariants as repetition
use Rattle.vb_syntax.specs.declared.statement.Statement.{Statement}
use Rattle.vb_syntax.specs.declared.statement.StatementKind.TheVariants as st
use Rattle.vb_syntax.specs.grammar.Words.{name_of}
use Rattle.vb_syntax.specs.grammar.SimpleStatements.{Looser, statement}
use Rattle.vb_syntax.specs.grammar.Statements.{passed}
use Rattle.vb_read.specs.Reader.{Reader, Look, ◌>>=◌, ◌>>◌, pure, refuse, one, keyword, symbol, sees, asks, passes}
use Rattle.vb_read.specs.Reader.{case, gate, many, Turn, until}
use Rattle.vb_read.specs.ReadExpressions.{list_of}
use Rattle.vb_read.specs.ReadDeclarations.{sees_access}
use Rattle.vb_read.specs.ReadCalls.{expression}
use Rattle.vb_read.specs.ReadSimpleStatements.{quoted, sees_quoted, const, simple}
use Rattle.vb_read.specs.ReadLines.{breaks, «end», line_end, keyword_begins_line_statement, kind_begins_line_statement}
use Rattle.vb_read.specs.ReadLines.{Blocks, line_if_from, line, inside_expression}
use Rattle.vb_read.specs.Depths.{opens}

-- ---- texts that are passed over

-- a text and its end
abbrev pub passed_text : Bool → Reader (Unit {0})
passed_text any = do one (passed any); «end»

-- any number of them
unfoldable pub passed_texts : Bool → Reader (Unit {0})
passed_texts any = do many (passes (passed any)) (passed_text any); pure tt

-- ---- what begins a statement or a constant

abbrev pub keyword_begins_statement : Keyword → Bool
keyword_begins_statement k.Const = true
keyword_begins_statement k.Do = true
keyword_begins_statement k.For = true
keyword_begins_statement k.Private = true
keyword_begins_statement k.Public = true
keyword_begins_statement k.Select = true
keyword_begins_statement k.While = true
keyword_begins_statement k.With = true
keyword_begins_statement keyword = keyword_begins_line_statement keyword

abbrev pub kind_begins_statement : TokenKind → Bool
kind_begins_statement (kind.Keyword keyword) = keyword_begins_statement keyword
kind_begins_statement kind = kind_begins_line_statement kind

abbrev pub begins_statement : Look
begins_statement = asks kind_begins_statement

abbrev pub sees_const : Look
sees_const token = sees_access token || sees (kind.Keyword k.Const) token

-- ---- conditions of loops

abbrev pub sees_loop_word : Look
sees_loop_word token = sees (kind.Keyword k.While) token || sees (kind.Keyword k.Until) token

-- "While" | "Until", with its line, and whether it is the second
abbrev pub loop_word : Reader (ℕ × Bool)
loop_word = case (sees (kind.Keyword k.While))
    (do line ← keyword k.While; pure (line, false))
    (do line ← keyword k.Until; pure (line, true))

-- cond
abbrev pub condition : Reader Expression → Reader (ℕ × Condition)
condition expression = do
  found ← loop_word
  test ← expression
  pure (found.0, record { is_until = found.1; test = test })

module _ (looser : Looser) (depth : ℕ) (inner : Blocks) where
  -- an expression inside a construct that opens here
  abbrev pub within : Reader Expression
  within = inside_expression looser depth inner

  -- ---- If

  -- "Else" end block
  abbrev pub else_block : Reader (List Statement)
  else_block = do keyword k.Else; «end»; inner.block

  -- [ "Else" end block ]
  abbrev pub else_part : Reader (Option (List Statement))
  else_part = case (sees (kind.Keyword k.Else)) (do body ← else_block; pure (Some body)) (pure None)

  -- "ElseIf" expr "Then" end block
  abbrev pub else_if : Reader ElseIf
  else_if = do
    line ← keyword k.ElseIf
    condition ← within
    keyword k.Then
    «end»
    body ← inner.block
    pure (roll-ElseIf (record { line = line; condition = condition; then = body }))

  -- { "ElseIf" expr "Then" end block }
  abbrev pub else_ifs : Reader (List ElseIf)
  else_ifs = many (sees (kind.Keyword k.ElseIf)) else_if

  -- a block If behind its "Then"
  abbrev pub block_if_from : ℕ → Expression → Reader Statement
  block_if_from line condition = do
    «end»
    body ← inner.block
    others ← else_ifs
    otherwise ← else_part
    keyword k.End
    keyword k.If
    pure (statement line (st.If condition body others otherwise))

  -- The two forms of If part behind "Then": a block If has an end there. Each has its own end behind it.
  abbrev pub if_from : ℕ → Expression → Reader Statement
  if_from line condition = case breaks
      (do found ← block_if_from line condition; «end»; pure found)
      (do found ← line_if_from looser depth inner line condition; line_end; pure found.0)

  -- If, of either form, and the end behind it
  abbrev pub if_sentence : Reader Statement
  if_sentence = gate (opens depth) (do
    line ← keyword k.If
    condition ← within
    keyword k.Then
    if_from line condition)

  -- ---- Select

  -- "Else" end block behind "Case"
  abbrev pub case_else : Reader (List Statement)
  case_else = do keyword k.Else; «end»; inner.block

  -- exprs end block behind "Case"
  abbrev pub case_from : ℕ → Reader Case
  case_from line = do
    values ← list_of within
    «end»
    body ← inner.block
    pure (roll-Case (record { line = line; values = values; body = body }))

  -- The next "Case" with its block, "Case" "Else" with its block, which is the last, or nothing more.
  abbrev pub case_turn : Reader (Turn Case (Option (List Statement)))
  case_turn = case (sees (kind.Keyword k.Case))
      (do
        line ← keyword k.Case
        case (sees (kind.Keyword k.Else))
            (do body ← case_else; pure (Break (Some body)))
            (do found ← case_from line; pure (Continue found)))
      (pure (Break None))

  -- In Rust one loop while "Case" comes next, which "Case" "Else" leaves.
  abbrev pub cases : Reader (List Case × Option (List Statement))
  cases = until case_turn

  abbrev pub select : Reader Statement
  select = gate (opens depth) (do
    line ← keyword k.Select
    keyword k.Case
    subject ← within
    «end»
    passed_texts looser.texts
    found ← cases
    keyword k.End
    keyword k.Select
    pure (statement line (st.Select subject found.0 found.1)))

  -- ---- loops

  -- [ "Step" expr ]
  abbrev pub step_part : Reader (Option Expression)
  step_part = case (sees_quoted (codes "step"))
      (do quoted (codes "step"); found ← within; pure (Some found))
      (pure None)

  -- name "=" expr "To" expr [ "Step" expr ] end block "Next" behind "For"
  abbrev pub for_from : ℕ → Reader Statement
  for_from line = do
    variable ← one name_of
    symbol s.Equal
    from ← within
    keyword k.To
    to ← within
    by ← step_part
    «end»
    body ← inner.block
    keyword k.Next
    pure (statement line (st.For variable from to by body))

  -- "Each" name "In" expr end block "Next" behind "For"
  abbrev pub for_each_from : ℕ → Reader Statement
  for_each_from line = do
    keyword k.Each
    variable ← one name_of
    keyword k.In
    group ← within
    «end»
    body ← inner.block
    keyword k.Next
    pure (statement line (st.ForEach variable group body))

  -- the two forms of For, which part behind that word
  abbrev pub for : Reader Statement
  for = gate (opens depth) (do
    line ← keyword k.For
    case (sees (kind.Keyword k.Each)) (for_each_from line) (for_from line))

  -- cond end block "Loop" behind "Do"
  abbrev pub do_before_from : ℕ → Reader Statement
  do_before_from line = do
    found ← condition within
    «end»
    body ← inner.block
    keyword k.Loop
    pure (statement line (st.Do (repetition.Before found.1) body))

  -- [ cond ] behind "Loop", outside of the loop
  abbrev pub loop_condition : Reader Repetition
  loop_condition = case sees_loop_word
      (do found ← condition (expression depth); pure (repetition.After found.0 found.1))
      (pure repetition.Endless)

  -- end block "Loop" [ cond ] behind "Do"
  abbrev pub do_after_from : ℕ → Reader Statement
  do_after_from line = do
    «end»
    body ← inner.block
    keyword k.Loop
    repeated ← loop_condition
    pure (statement line (st.Do repeated body))

  -- the two forms of Do, which part behind that word
  abbrev pub do_loop : Reader Statement
  do_loop = gate (opens depth) (do
    line ← keyword k.Do
    case sees_loop_word (do_before_from line) (do_after_from line))

  abbrev pub while : Reader Statement
  while = gate (opens depth) (do
    line ← keyword k.While
    condition ← within
    «end»
    body ← inner.block
    keyword k.Wend
    pure (statement line (st.While condition body)))

  -- ---- With

  abbrev pub with_block : Reader Statement
  with_block = gate (opens depth) (do
    line ← keyword k.With
    subject ← within
    «end»
    body ← inner.block
    keyword k.End
    keyword k.With
    pure (statement line (st.With subject body)))

  -- ---- blocks

  -- a statement other than If, or a constant, by the token that it begins with
  abbrev pub other : Reader Statement
  other = case sees_const const
      (case (sees (kind.Keyword k.Select)) select
      (case (sees (kind.Keyword k.For)) for
      (case (sees (kind.Keyword k.Do)) do_loop
      (case (sees (kind.Keyword k.While)) while
      (case (sees (kind.Keyword k.With)) with_block (simple looser depth))))))

  -- a statement or a constant, and the end behind it
  abbrev pub sentence : Reader Statement
  sentence = case (sees (kind.Keyword k.If)) if_sentence (do found ← other; «end»; pure found)

  -- block
  abbrev pub block : Reader (List Statement)
  block = many begins_statement sentence

  -- what may stand here
  abbrev pub blocks_here : Blocks
  blocks_here = record { block = block; line = line looser depth inner }

-- nothing is read inside where nothing opens
abbrev pub no_blocks : Blocks
no_blocks = record { block = refuse; line = refuse }

-- the readers where this many more constructs may open
abbrev pub blocks : Looser → ℕ → Blocks
blocks looser zero = blocks_here looser zero no_blocks
blocks looser (suc depth) = blocks_here looser (suc depth) (blocks looser depth)

-- the readers of the place inside a construct that opens here
abbrev pub blocks_inside : Looser → ℕ → Blocks
blocks_inside looser zero = no_blocks
blocks_inside looser (suc depth) = blocks looser depth
