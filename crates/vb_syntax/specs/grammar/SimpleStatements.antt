-- Statements that hold no other: which token lists spell which of them.
use Rattle.std.specs.Prelude.{◌≡◌, ℕ, zero, suc, Bool, true, false, IsTrue, List, [], ◌∷◌, ◌++◌, Option, Some}
use Rattle.std.specs.Prelude.{None, pos, if◌then◌else◌, codes}
use Rattle.vb_value.specs.Folding.{same_name}
use Rattle.vb_value.specs.declared.token.Keyword.TheVariants as k
use Rattle.vb_value.specs.declared.token.Symbol.TheVariants as s
use Rattle.vb_value.specs.declared.token.Token.{Token}
use Rattle.vb_value.specs.declared.token.TokenKind.{TokenKind}
use Rattle.vb_value.specs.declared.token.TokenKind.TheVariants as kind
use Rattle.vb_syntax.specs.declared.expression.Expression.{Expression}
use Rattle.vb_syntax.specs.declared.expression.PathHead.{PathHead}
use Rattle.vb_syntax.specs.declared.expression.PathHead.TheVariants as head
use Rattle.vb_syntax.specs.declared.expression.Step.{Step, out-Step}
use Rattle.vb_syntax.specs.declared.expression.Expression.TheOpen.{Step-F}
use Rattle.vb_syntax.specs.declared.statement.ExitKind.{ExitKind}
use Rattle.vb_syntax.specs.declared.statement.ExitKind.TheVariants as exit
use Rattle.vb_syntax.specs.declared.statement.Resized.{Resized}
use Rattle.vb_syntax.specs.declared.statement.Statement.{Statement, roll-Statement}
use Rattle.vb_syntax.specs.declared.statement.StatementKind.{StatementKind}
use Rattle.vb_syntax.specs.declared.statement.StatementKind.TheVariants as st
use Rattle.vb_syntax.specs.grammar.Rules.{Tokens, Rule, pure, ◌>>=◌, ◌>>◌, ◌or◌, one, many, where_true}
use Rattle.vb_syntax.specs.grammar.Words.{word, keyword, symbol, list_of, name_of}
use Rattle.vb_syntax.specs.grammar.Declarations.{opened, with_access, declared, constant, number_of}
use Rattle.vb_syntax.specs.grammar.Expressions as x
use Rattle.vb_syntax.specs.grammar.Expressions.{expressions, path_of, step}

-- ---- words

-- the line of a name without brackets that is this word, in any ASCII case
abbrev pub line_of_quoted : List ℕ → TokenKind → ℕ → Option ℕ
line_of_quoted text (kind.Name name false) line =
    if same_name text name then Some line else None
line_of_quoted text _ line = None

abbrev pub quoted_at : List ℕ → Token → Option ℕ
quoted_at text token = line_of_quoted text token.kind token.line

-- a quoted word that is a name elsewhere
abbrev pub quoted : List ℕ → Rule ℕ
quoted text = one (quoted_at text)

-- the line of a page text, and the text
abbrev pub text_of_kind : TokenKind → ℕ → Option (ℕ × List ℕ)
text_of_kind (kind.PageText text) line = Some (line, text)
text_of_kind _ line = None

abbrev pub text_at : Token → Option (ℕ × List ℕ)
text_at token = text_of_kind token.kind token.line

abbrev pub page_text : Rule (ℕ × List ℕ)
page_text = one text_at

-- a number of the value 0
abbrev pub zero_number : Rule (Unit {0})
zero_number tokens found = one number_of tokens (pos 0)

-- ---- trees

-- a statement in its line
abbrev pub statement : ℕ → StatementKind → Statement
statement line kind = roll-Statement (record { line = line; kind = kind })

-- the tokens begin with what the rule spells
abbrev pub Begins : {A : Type 0} → Rule A → Tokens → Type 0
Begins {A} rule tokens =
    (front : Tokens) × (back : Tokens) × (x : A) × rule front x × (tokens ≡ front ++ back)

-- whether a step is a parenthesis
abbrev pub is_group_layer : {E O P S : Type 0} → Step-F E O P S → Bool
is_group_layer (Step-F.Member name) = false
is_group_layer (Step-F.Group arguments) = true

abbrev pub is_group : Step → Bool
is_group behind = is_group_layer (out-Step behind)

-- the last of a path's steps is a parenthesis
abbrev pub ends_in_group : List Step → Bool
ends_in_group [] = false
ends_in_group (last ∷ []) = is_group last
ends_in_group (first ∷ next ∷ more) = ends_in_group (next ∷ more)

-- the line and the text of a name
abbrev pub named_by : Option (List ℕ) → ℕ → Option (ℕ × PathHead)
named_by None line = None
named_by (Some name) line = Some (line, head.Name name)

abbrev pub named_at : Token → Option (ℕ × PathHead)
named_at token = named_by (name_of token) token.line

-- where a path begins, with its line
abbrev pub head_at : Rule (ℕ × PathHead)
head_at = one named_at
    or (do line ← keyword k.Me; pure (line, head.Me))
    or (do line ← symbol s.WithPoint; name ← one name_of; pure (line, head.With name))

-- "." name | "(" [ exprs ] ")", where this many more constructs may open
abbrev pub path_step : ℕ → Rule Step
path_step zero = step false x.closed
path_step (suc within) = step true (expressions within)

-- What the grammar allows beyond itself, so that the kinds of faults can be told: several expressions in the
-- parenthesis of a call statement, and text inside Class and in the head of Select.
pub record Looser : Type 0 where
  pub several : Bool
  pub texts : Bool

-- ---- rules

-- `depth` more constructs may open here.
module _ (looser : Looser) (depth : ℕ) where
  -- an expression of this place
  abbrev pub expression : Rule Expression
  expression = (expressions depth).expression

  -- a path, and the line on which it begins
  abbrev pub path_at : Rule (ℕ × PathHead × List Step)
  path_at = do found ← head_at; steps ← many (path_step depth); pure (found.0, found.1, steps)

  -- [ "Public" | "Private" ] "Const" name "=" lit { "," name "=" lit }
  abbrev pub const : Rule Statement
  const = do
    first ← with_access (keyword k.Const)
    constants ← list_of constant
    pure (statement first.0 (st.Const first.1 constants))

  -- "Dim" decl { "," decl }
  abbrev pub dim : Rule Statement
  dim = do
    line ← keyword k.Dim
    variables ← list_of (declared depth)
    pure (statement line (st.Dim variables))

  -- name "(" exprs ")"
  abbrev pub resized : Rule Resized
  resized = do
    name ← one name_of
    bounds ← opened depth (λ within. do
      symbol s.Open
      found ← list_of (expressions within).expression
      symbol s.Close
      pure found)
    pure (record { name = name; bounds = bounds })

  -- "ReDim" [ "Preserve" ] name "(" exprs ")" { "," name "(" exprs ")" }
  abbrev pub redim : Rule Statement
  redim = do
    line ← keyword k.ReDim
    preserve ← (do keyword k.Preserve; pure true) or pure false
    arrays ← list_of resized
    pure (statement line (st.ReDim preserve arrays))

  -- "Set" path "=" expr
  abbrev pub set : Rule Statement
  set = do
    line ← keyword k.Set
    target ← path_at
    symbol s.Equal
    value ← expression
    pure (statement line (st.Set (path_of target.1 target.2) value))

  -- path "=" expr
  abbrev pub assignment : Rule Statement
  assignment = do
    target ← path_at
    symbol s.Equal
    value ← expression
    pure (statement target.0 (st.Assign (path_of target.1 target.2) value))

  -- "(" exprs ")" with several expressions
  abbrev pub several : Rule (List Expression)
  several = opened depth (λ within. do
    symbol s.Open
    first ← (expressions within).expression
    symbol s.Comma
    more ← list_of (expressions within).expression
    symbol s.Close
    pure (first ∷ more))

  -- [ exprs ], or one more pair of parentheses with nothing between
  abbrev pub arguments : Rule (List Expression)
  arguments = pure []
      or opened depth (λ within. do symbol s.Open; symbol s.Close; pure [])
      or list_of expression
      or where_true looser.several several

  -- path [ exprs ]. A path with "=" behind it is an assignment, and a parenthesis at the path's end, with no "."
  -- or "(" behind it, begins the arguments.
  pub record Call (tokens : Tokens) (found : Statement) : Type 0 where
    pub front : Tokens
    pub back : Tokens
    pub split : tokens ≡ front ++ back
    pub callee : ℕ × PathHead × List Step
    pub given : List Expression
    pub callee_spells : path_at front callee
    pub given_spells : arguments back given
    pub no_assignment : ¬ (Begins (path_at >> symbol s.Equal) tokens)
    pub parenthesis : IsTrue (ends_in_group callee.2) → Begins (symbol s.Open) back
    pub is : found ≡ statement callee.0 (st.Call (path_of callee.1 callee.2) given)

  -- "Call" path
  abbrev pub call_path : Rule Statement
  call_path = do
    line ← keyword k.Call
    callee ← path_at
    pure (statement line (st.CallPath (path_of callee.1 callee.2)))

  -- "Do" | "For" | "Sub" | "Function" | "Property"
  abbrev pub exit_kind : Rule ExitKind
  exit_kind = (do keyword k.Do; pure exit.Do)
      or (do keyword k.For; pure exit.For)
      or (do keyword k.Sub; pure exit.Sub)
      or (do keyword k.Function; pure exit.Function)
      or (do quoted (codes "property"); pure exit.Property)

  -- "Exit" ( "Do" | "For" | "Sub" | "Function" | "Property" )
  abbrev pub exit_statement : Rule Statement
  exit_statement = do line ← keyword k.Exit; found ← exit_kind; pure (statement line (st.Exit found))

  -- "On" "Error" "Resume" "Next" | "On" "Error" "GoTo" "0"
  abbrev pub on_error : Rule Statement
  on_error = do
    line ← keyword k.On
    quoted (codes "error")
    (do keyword k.Resume; keyword k.Next; pure (statement line st.OnErrorResumeNext))
        or (do keyword k.GoTo; zero_number; pure (statement line st.OnErrorGoToZero))

  -- "Erase" name { "," name }
  abbrev pub erase : Rule Statement
  erase = do line ← keyword k.Erase; names ← list_of (one name_of); pure (statement line (st.Erase names))

  -- pagetext | pagewrite expr
  abbrev pub page : Rule Statement
  page = (do found ← page_text; pure (statement found.0 (st.PageText found.1)))
      or (do line ← word kind.PageWrite; value ← expression; pure (statement line (st.PageWrite value)))

  -- a statement that holds no other
  abbrev pub simple : Rule Statement
  simple = dim or redim or set or assignment or Call or call_path
      or exit_statement or on_error or erase or page
