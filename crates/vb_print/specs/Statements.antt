-- How statements are printed: the words of each construct in the grammar's order. The words of a statement, and the
-- ends of the lines in it, stand in its line. `ElseIf`, `Case` and a condition behind `Loop` have lines of their own.
use Rattle.std.specs.Prelude.{ℕ, ℤ, pos, Bool, true, false, List, [], ◌∷◌, ◌++◌, map, Option, Some, None, codes}
use Rattle.std.specs.List.{flat_map}
use Rattle.vb_value.specs.declared.token.Keyword.{Keyword}
use Rattle.vb_value.specs.declared.token.Keyword.TheVariants as k
use Rattle.vb_value.specs.declared.token.Symbol.TheVariants as s
use Rattle.vb_value.specs.declared.token.Token.{Token}
use Rattle.vb_value.specs.declared.token.TokenKind.TheVariants as kind
use Rattle.vb_syntax.specs.declared.declaration.Access.{Access}
use Rattle.vb_syntax.specs.declared.declaration.Access.TheVariants as access
use Rattle.vb_syntax.specs.declared.declaration.Constant.{Constant}
use Rattle.vb_syntax.specs.declared.declaration.ConstantValue.{ConstantValue}
use Rattle.vb_syntax.specs.declared.declaration.ConstantValue.TheVariants as value
use Rattle.vb_syntax.specs.declared.declaration.Declared.{Declared}
use Rattle.vb_syntax.specs.declared.expression.Expression.{Expression}
use Rattle.vb_syntax.specs.declared.expression.Path.{Path, out-Path}
use Rattle.vb_syntax.specs.declared.statement.Case.{Case}
use Rattle.vb_syntax.specs.declared.statement.Condition.{Condition}
use Rattle.vb_syntax.specs.declared.statement.ElseIf.{ElseIf}
use Rattle.vb_syntax.specs.declared.statement.ExitKind.{ExitKind}
use Rattle.vb_syntax.specs.declared.statement.ExitKind.TheVariants as exit
use Rattle.vb_syntax.specs.declared.statement.Repetition.{Repetition}
use Rattle.vb_syntax.specs.declared.statement.Repetition.TheVariants as repetition
use Rattle.vb_syntax.specs.declared.statement.Resized.{Resized}
use Rattle.vb_syntax.specs.declared.statement.Statement.{Statement}
use Rattle.vb_syntax.specs.declared.statement.StatementKind.{StatementKind}
use Rattle.vb_syntax.specs.declared.statement.StatementKind.TheOpen.{StatementKind-F, Statement-F, ElseIf-F, Case-F}
use Rattle.vb_syntax.specs.declared.statement.StatementKind.TheFolds.{fold-Case, fold-ElseIf}
use Rattle.vb_syntax.specs.declared.statement.StatementKind.TheFolds.{fold-Statement, fold-StatementKind}
use Rattle.vb_syntax.specs.grammar.Rules.{Tokens}
use Rattle.vb_syntax.specs.grammar.SimpleStatements.{ends_in_group}
use Rattle.vb_print.specs.Words.{printed, keyword, symbol, name, quoted, joined, listed, literal_word}
use Rattle.vb_print.specs.Expressions.{expression_words, path_words}

-- ---- declarations

-- the word before a declaration, where there is one
abbrev pub access_words : ℕ → Option Access → Tokens
access_words line None = []
access_words line (Some access.Public) = keyword line k.Public ∷ []
access_words line (Some access.Private) = keyword line k.Private ∷ []

-- a bound of an array, always as a Long
abbrev pub bound_words : ℕ → ℤ → Tokens
bound_words line number = printed line (kind.Long number) ∷ []

-- the bounds of a declared array
abbrev pub bounds_words : ℕ → Option (List ℤ) → Tokens
bounds_words line None = []
bounds_words line (Some bounds) =
    symbol line s.Open ∷ listed line (map (bound_words line) bounds) ++ symbol line s.Close ∷ []

-- a declared variable
abbrev pub declared_words : ℕ → Declared → Tokens
declared_words line found = name line found.name ∷ bounds_words line found.bounds

-- what a constant stands for
abbrev pub constant_value_words : ℕ → ConstantValue → Tokens
constant_value_words line (value.Literal found) = printed line (literal_word found) ∷ []
constant_value_words line (value.NegativeInteger number) =
    symbol line s.Minus ∷ printed line (kind.Integer number) ∷ []
constant_value_words line (value.NegativeLong number) = symbol line s.Minus ∷ printed line (kind.Long number) ∷ []

-- a declared constant
abbrev pub constant_words : ℕ → Constant → Tokens
constant_words line found = name line found.name ∷ symbol line s.Equal ∷ constant_value_words line found.value

-- ---- parts of statements

-- a name
abbrev pub name_words : ℕ → List ℕ → Tokens
name_words line text = name line text ∷ []

-- `Preserve`, or nothing
abbrev pub preserve_words : ℕ → Bool → Tokens
preserve_words line true = keyword line k.Preserve ∷ []
preserve_words line false = []

-- an array and its new bounds
abbrev pub resized_words : ℕ → Resized → Tokens
resized_words line found = name line found.name
    ∷ symbol line s.Open ∷ listed line (map (expression_words line) found.bounds) ++ symbol line s.Close ∷ []

-- a pair of parentheses with nothing between, or nothing
abbrev pub empty_group : ℕ → Bool → Tokens
empty_group line true = symbol line s.Open ∷ symbol line s.Close ∷ []
empty_group line false = []

-- The arguments of a call. Where there are none behind a path that ends in a parenthesis, an empty one follows, which
-- keeps the path's own from being read as the arguments.
abbrev pub argument_words : ℕ → Path → List Expression → Tokens
argument_words line callee [] = empty_group line (ends_in_group (out-Path callee).steps)
argument_words line callee (first ∷ more) = listed line (map (expression_words line) (first ∷ more))

-- what an `Exit` leaves
abbrev pub exit_word : ℕ → ExitKind → Token
exit_word line exit.Do = keyword line k.Do
exit_word line exit.For = keyword line k.For
exit_word line exit.Sub = keyword line k.Sub
exit_word line exit.Function = keyword line k.Function
exit_word line exit.Property = quoted line (codes "Property")

-- Until or While
abbrev pub loop_keyword : Bool → Keyword
loop_keyword true = k.Until
loop_keyword false = k.While

-- the condition of a `Do`
abbrev pub condition_words : ℕ → Condition → Tokens
condition_words line condition =
    keyword line (loop_keyword condition.is_until) ∷ expression_words line condition.test

-- the condition behind `Do`, where it stands there
abbrev pub before_words : ℕ → Repetition → Tokens
before_words line (repetition.Before condition) = condition_words line condition
before_words line _ = []

-- the condition behind `Loop`, where it stands there, in a line of its own
abbrev pub after_words : Repetition → Tokens
after_words (repetition.After line condition) = condition_words line condition
after_words _ = []

-- `Step` and by how much, or nothing
abbrev pub step_words : ℕ → Option Expression → Tokens
step_words line None = []
step_words line (Some by) = quoted line (codes "Step") ∷ expression_words line by

-- ---- blocks and lines

-- the end of a line
abbrev pub line_end : ℕ → Token
line_end line = printed line kind.LineEnd

-- statements, and the end of a line behind each
abbrev pub block_words : ℕ → List Tokens → Tokens
block_words line = flat_map (λ (x : Tokens). x ++ line_end line ∷ [])

-- statements of one line, with ":" between
abbrev pub line_words : ℕ → List Tokens → Tokens
line_words line = joined (symbol line s.Colon)

-- [ "Else" line ]
abbrev pub line_else_words : ℕ → Option (List Tokens) → Tokens
line_else_words line None = []
line_else_words line (Some body) = keyword line k.Else ∷ line_words line body

-- [ "Else" end block ]
abbrev pub else_words : ℕ → Option (List Tokens) → Tokens
else_words line None = []
else_words line (Some body) = keyword line k.Else ∷ line_end line ∷ block_words line body

-- [ "Case" "Else" end block ]
abbrev pub case_else_words : ℕ → Option (List Tokens) → Tokens
case_else_words line None = []
case_else_words line (Some body) = keyword line k.Case ∷ else_words line (Some body)

-- ---- statements

-- what a statement in a line says, with the words of what is inside in its place
abbrev pub kind_layer : StatementKind-F (ℕ → Tokens) Tokens Tokens Tokens → ℕ → Tokens
kind_layer (StatementKind-F.Const access constants) line =
    access_words line access ++ keyword line k.Const ∷ listed line (map (constant_words line) constants)
kind_layer (StatementKind-F.Dim variables) line =
    keyword line k.Dim ∷ listed line (map (declared_words line) variables)
kind_layer (StatementKind-F.ReDim preserve arrays) line =
    keyword line k.ReDim ∷ preserve_words line preserve ++ listed line (map (resized_words line) arrays)
kind_layer (StatementKind-F.Set target value) line =
    keyword line k.Set ∷ path_words line target ++ symbol line s.Equal ∷ expression_words line value
kind_layer (StatementKind-F.Assign target value) line =
    path_words line target ++ symbol line s.Equal ∷ expression_words line value
kind_layer (StatementKind-F.Call callee arguments) line =
    path_words line callee ++ argument_words line callee arguments
kind_layer (StatementKind-F.CallPath callee) line = keyword line k.Call ∷ path_words line callee
kind_layer (StatementKind-F.If condition then others otherwise) line =
    keyword line k.If ∷ expression_words line condition
    ++ keyword line k.Then ∷ line_end line ∷ block_words line then
    ++ flat_map (λ (x : Tokens). x) others
    ++ else_words line otherwise
    ++ keyword line k.End ∷ keyword line k.If ∷ []
kind_layer (StatementKind-F.LineIf condition then otherwise) line =
    keyword line k.If ∷ expression_words line condition
    ++ keyword line k.Then ∷ line_words line then
    ++ line_else_words line otherwise
kind_layer (StatementKind-F.Select subject cases otherwise) line =
    keyword line k.Select ∷ keyword line k.Case ∷ expression_words line subject
    ++ line_end line ∷ flat_map (λ (x : Tokens). x) cases
    ++ case_else_words line otherwise
    ++ keyword line k.End ∷ keyword line k.Select ∷ []
kind_layer (StatementKind-F.For variable from to by body) line =
    keyword line k.For ∷ name line variable ∷ symbol line s.Equal ∷ expression_words line from
    ++ keyword line k.To ∷ expression_words line to
    ++ step_words line by
    ++ line_end line ∷ block_words line body
    ++ keyword line k.Next ∷ []
kind_layer (StatementKind-F.ForEach variable group body) line =
    keyword line k.For ∷ keyword line k.Each ∷ name line variable ∷ keyword line k.In ∷ expression_words line group
    ++ line_end line ∷ block_words line body
    ++ keyword line k.Next ∷ []
kind_layer (StatementKind-F.Do repeated body) line =
    keyword line k.Do ∷ before_words line repeated
    ++ line_end line ∷ block_words line body
    ++ keyword line k.Loop ∷ after_words repeated
kind_layer (StatementKind-F.While condition body) line =
    keyword line k.While ∷ expression_words line condition
    ++ line_end line ∷ block_words line body
    ++ keyword line k.Wend ∷ []
kind_layer (StatementKind-F.With subject body) line =
    keyword line k.With ∷ expression_words line subject
    ++ line_end line ∷ block_words line body
    ++ keyword line k.End ∷ keyword line k.With ∷ []
kind_layer (StatementKind-F.Exit left) line = keyword line k.Exit ∷ exit_word line left ∷ []
kind_layer StatementKind-F.OnErrorResumeNext line =
    keyword line k.On ∷ quoted line (codes "Error") ∷ keyword line k.Resume ∷ keyword line k.Next ∷ []
kind_layer StatementKind-F.OnErrorGoToZero line = keyword line k.On ∷ quoted line (codes "Error")
    ∷ keyword line k.GoTo ∷ printed line (kind.Integer (pos 0)) ∷ []
kind_layer (StatementKind-F.Erase names) line = keyword line k.Erase ∷ listed line (map (name_words line) names)
kind_layer (StatementKind-F.PageText text) line = printed line (kind.PageText text) ∷ []
kind_layer (StatementKind-F.PageWrite value) line = printed line kind.PageWrite ∷ expression_words line value

-- one statement
abbrev pub statement_layer : Statement-F (ℕ → Tokens) Tokens Tokens Tokens → Tokens
statement_layer found = found.kind found.line

-- "ElseIf" expr "Then" end block
abbrev pub else_if_layer : ElseIf-F (ℕ → Tokens) Tokens Tokens Tokens → Tokens
else_if_layer found = keyword found.line k.ElseIf ∷ expression_words found.line found.condition
    ++ keyword found.line k.Then ∷ line_end found.line ∷ block_words found.line found.then

-- "Case" exprs end block
abbrev pub case_layer : Case-F (ℕ → Tokens) Tokens Tokens Tokens → Tokens
case_layer found = keyword found.line k.Case
    ∷ listed found.line (map (expression_words found.line) found.values)
    ++ line_end found.line ∷ block_words found.line found.body

-- the words of a statement
abbrev pub statement_words : Statement → Tokens
statement_words = fold-Statement (ℕ → Tokens) Tokens Tokens Tokens
    kind_layer case_layer else_if_layer statement_layer

-- the words of statements, each with the end of a line behind it
abbrev pub body_words : ℕ → List Statement → Tokens
body_words line statements = block_words line (map statement_words statements)

-- the words of an `ElseIf` part
abbrev pub else_if_words : ElseIf → Tokens
else_if_words = fold-ElseIf (ℕ → Tokens) Tokens Tokens Tokens
    kind_layer case_layer else_if_layer statement_layer

-- the words of a `Case` part
abbrev pub case_words : Case → Tokens
case_words = fold-Case (ℕ → Tokens) Tokens Tokens Tokens
    kind_layer case_layer else_if_layer statement_layer

-- the words of what a statement in a line says
abbrev pub kind_words : StatementKind → ℕ → Tokens
kind_words = fold-StatementKind (ℕ → Tokens) Tokens Tokens Tokens
    kind_layer case_layer else_if_layer statement_layer
