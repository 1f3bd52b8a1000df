-- Reading statements that hold no other: each reader is the rule of its name, and asks the next token alone.
use Rattle.std.specs.Prelude.{ℕ, ℤ, pos, zero, Bool, true, false, List, [], Option, Some, None, codes}
use Rattle.vb_value.specs.declared.token.Keyword.{Keyword}
use Rattle.vb_value.specs.declared.token.Keyword.TheVariants as k
use Rattle.vb_value.specs.declared.token.Symbol.{Symbol}
use Rattle.vb_value.specs.declared.token.Symbol.TheVariants as s
use Rattle.vb_value.specs.declared.token.Token.{Token}
use Rattle.vb_value.specs.declared.token.TokenKind.{TokenKind}
use Rattle.vb_value.specs.declared.token.TokenKind.TheVariants as kind
use Rattle.vb_syntax.specs.declared.declaration.Access.{Access}
use Rattle.vb_syntax.specs.declared.expression.Expression.{Expression}
use Rattle.vb_syntax.specs.declared.statement.ExitKind.{ExitKind}
use Rattle.vb_syntax.specs.declared.statement.ExitKind.TheVariants as exit
use Rattle.vb_syntax.specs.declared.statement.Resized.{Resized}
use Rattle.vb_syntax.specs.declared.statement.Statement.{Statement}
use Rattle.vb_syntax.specs.declared.statement.StatementKind.TheVariants as st
use Rattle.vb_syntax.specs.grammar.Words.{name_of}
use Rattle.vb_syntax.specs.grammar.Declarations.{number_of}
use Rattle.vb_syntax.specs.grammar.Expressions.{path_of}
use Rattle.vb_syntax.specs.grammar.SimpleStatements.{Looser, quoted_at, text_at, statement}
use Rattle.vb_read.specs.Reader.{Reader, Look, ◌>>=◌, ◌>>◌, pure, one, word, keyword, symbol, sees, passes, case, gate}
use Rattle.vb_read.specs.ReadExpressions.{expressions, list_of}
use Rattle.vb_read.specs.ReadDeclarations.{opened, sees_access, access_word, begun, declared, constant}
use Rattle.vb_read.specs.ReadCalls.{expression, path_at, value_behind, from_path}
use Rattle.vb_read.specs.Depths.{opens}

-- ---- words

-- a quoted word that is a name elsewhere
abbrev pub quoted : List ℕ → Reader ℕ
quoted text = one (quoted_at text)

abbrev pub sees_quoted : List ℕ → Look
sees_quoted text = passes (quoted_at text)

-- a number of the value 0
abbrev pub zero_by : Option ℤ → Option (Unit {0})
zero_by (Some (pos zero)) = Some tt
zero_by _ = None

abbrev pub zero_of : Token → Option (Unit {0})
zero_of token = zero_by (number_of token)

-- ---- what begins a statement that holds no other

abbrev pub keyword_begins_simple : Keyword → Bool
keyword_begins_simple k.Call = true
keyword_begins_simple k.Dim = true
keyword_begins_simple k.Erase = true
keyword_begins_simple k.Exit = true
keyword_begins_simple k.Me = true
keyword_begins_simple k.On = true
keyword_begins_simple k.ReDim = true
keyword_begins_simple k.Set = true
keyword_begins_simple _ = false

abbrev pub symbol_begins_simple : Symbol → Bool
symbol_begins_simple s.WithPoint = true
symbol_begins_simple _ = false

abbrev pub kind_begins_simple : TokenKind → Bool
kind_begins_simple (kind.Keyword keyword) = keyword_begins_simple keyword
kind_begins_simple (kind.Symbol symbol) = symbol_begins_simple symbol
kind_begins_simple (kind.Name text bracketed) = true
kind_begins_simple (kind.PageText text) = true
kind_begins_simple kind.PageWrite = true
kind_begins_simple _ = false

-- ---- constants

-- A constant behind the word before it, which was read.
abbrev pub const_from : Option (ℕ × Access) → Reader Statement
const_from before = do
  line ← keyword k.Const
  constants ← list_of constant
  pure (statement (begun before line).0 (st.Const (begun before line).1 constants))

-- const
abbrev pub const : Reader Statement
const = case sees_access (do before ← access_word; const_from (Some before)) (const_from None)

-- ---- statements

-- "Do" | "For" | "Sub" | "Function" | "Property"
abbrev pub exit_kind : Reader ExitKind
exit_kind = case (sees (kind.Keyword k.Do)) (do keyword k.Do; pure exit.Do)
    (case (sees (kind.Keyword k.For)) (do keyword k.For; pure exit.For)
    (case (sees (kind.Keyword k.Sub)) (do keyword k.Sub; pure exit.Sub)
    (case (sees (kind.Keyword k.Function)) (do keyword k.Function; pure exit.Function)
    (do quoted (codes "property"); pure exit.Property))))

abbrev pub exit_statement : Reader Statement
exit_statement = do line ← keyword k.Exit; found ← exit_kind; pure (statement line (st.Exit found))

abbrev pub on_error : Reader Statement
on_error = do
  line ← keyword k.On
  quoted (codes "error")
  case (sees (kind.Keyword k.Resume))
      (do keyword k.Resume; keyword k.Next; pure (statement line st.OnErrorResumeNext))
      (do keyword k.GoTo; one zero_of; pure (statement line st.OnErrorGoToZero))

abbrev pub erase : Reader Statement
erase = do line ← keyword k.Erase; names ← list_of (one name_of); pure (statement line (st.Erase names))

-- pagetext
abbrev pub page_text : Reader Statement
page_text = do found ← one text_at; pure (statement found.0 (st.PageText found.1))

module _ (depth : ℕ) where
  abbrev pub dim : Reader Statement
  dim = do
    line ← keyword k.Dim
    variables ← list_of (declared depth)
    pure (statement line (st.Dim variables))

  -- "(" exprs ")"
  abbrev pub resized_bounds : Reader (List Expression)
  resized_bounds = opened depth (λ within. do
    symbol s.Open
    found ← list_of (expressions within).expression
    symbol s.Close
    pure found)

  -- name "(" exprs ")"
  abbrev pub resized : Reader Resized
  resized = do
    name ← one name_of
    bounds ← resized_bounds
    pure (record { name = name; bounds = bounds })

  -- [ "Preserve" ]
  abbrev pub preserve : Reader Bool
  preserve = case (sees (kind.Keyword k.Preserve)) (do keyword k.Preserve; pure true) (pure false)

  -- Each array needs a parenthesis, so where none may open no ReDim goes on.
  abbrev pub redim : Reader Statement
  redim = gate (opens depth) (do
    line ← keyword k.ReDim
    kept ← preserve
    arrays ← list_of resized
    pure (statement line (st.ReDim kept arrays)))

  abbrev pub set : Reader Statement
  set = do
    line ← keyword k.Set
    target ← path_at depth
    value ← value_behind depth
    pure (statement line (st.Set (path_of target.1 target.2) value))

  abbrev pub call_path : Reader Statement
  call_path = do
    line ← keyword k.Call
    callee ← path_at depth
    pure (statement line (st.CallPath (path_of callee.1 callee.2)))

  -- pagewrite expr
  abbrev pub page_write : Reader Statement
  page_write = do
    line ← word kind.PageWrite
    value ← expression depth
    pure (statement line (st.PageWrite value))

-- a statement that holds no other, by the token that it begins with
abbrev pub simple : Looser → ℕ → Reader Statement
simple looser depth = case (sees (kind.Keyword k.Dim)) (dim depth)
    (case (sees (kind.Keyword k.ReDim)) (redim depth)
    (case (sees (kind.Keyword k.Set)) (set depth)
    (case (sees (kind.Keyword k.Call)) (call_path depth)
    (case (sees (kind.Keyword k.Exit)) exit_statement
    (case (sees (kind.Keyword k.On)) on_error
    (case (sees (kind.Keyword k.Erase)) erase
    (case (sees (kind.PageText [])) page_text
    (case (sees kind.PageWrite) (page_write depth) (from_path looser depth)))))))))
