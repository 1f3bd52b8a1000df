-- The words of each form of a statement, from the fold that defines them.
use Rattle.std.proofs.Common.{◌≡◌, ℕ, Bool, List, map, Option, Some, None, sym, ap, ◌∙◌}
use Rattle.std.specs.Option.{option_map}
use Rattle.vb_syntax.specs.declared.declaration.Access.{Access}
use Rattle.vb_syntax.specs.declared.declaration.Constant.{Constant}
use Rattle.vb_syntax.specs.declared.expression.Expression.{Expression}
use Rattle.vb_syntax.specs.declared.statement.StatementKind.{StatementKind}
use Rattle.vb_syntax.specs.declared.statement.StatementKind.TheVariants as st
use Rattle.vb_syntax.specs.declared.statement.StatementKind.TheOpen.{StatementKind-F}
use Rattle.vb_syntax.specs.declared.statement.StatementKind.TheFolds.{fold-roll-StatementKind}
use Rattle.vb_syntax.specs.declared.statement.StatementKind.TheFolds.{fold-roll-Case, fold-roll-ElseIf}
use Rattle.vb_syntax.specs.declared.statement.StatementKind.TheFolds.{fold-roll-Statement}
use Rattle.vb_syntax.specs.declared.statement.Statement.{Statement}
use Rattle.vb_syntax.specs.declared.statement.Case.{Case, roll-Case}
use Rattle.vb_syntax.specs.declared.statement.ElseIf.{ElseIf, roll-ElseIf}
use Rattle.vb_syntax.specs.declared.statement.ExitKind.{ExitKind}
use Rattle.vb_syntax.specs.declared.statement.Repetition.{Repetition}
use Rattle.vb_syntax.specs.declared.statement.Resized.{Resized}
use Rattle.vb_syntax.specs.declared.declaration.Declared.{Declared}
use Rattle.vb_syntax.specs.declared.expression.Path.{Path}
use Rattle.vb_syntax.specs.grammar.Rules.{Tokens}
use Rattle.vb_syntax.specs.grammar.SimpleStatements.{statement}
use Rattle.vb_print.specs.Statements.{kind_layer, case_layer, else_if_layer, statement_layer}
use Rattle.vb_print.specs.Statements.{statement_words, else_if_words, case_words, kind_words}

pub at_kind : (line : ℕ) (kind : StatementKind) → statement_words (statement line kind) ≡ kind_words kind line
at_kind line kind = fold-roll-Statement (ℕ → Tokens) Tokens Tokens Tokens
    kind_layer case_layer else_if_layer statement_layer (record { line = line; kind = kind })

pub words-const : (line : ℕ) → (access : Option Access) → (constants : List Constant)
    → statement_words (statement line (st.Const access constants))
    ≡ kind_layer (StatementKind-F.Const access constants) line
words-const line access constants = at_kind line (st.Const access constants)
    ∙ ap (λ kind. kind_words kind line) (sym (st.rolls-Const access constants))
    ∙ ap (λ words. words line) (fold-roll-StatementKind (ℕ → Tokens) Tokens Tokens Tokens
    kind_layer case_layer else_if_layer statement_layer (StatementKind-F.Const access constants))

pub words-dim : (line : ℕ) → (variables : List Declared) → statement_words (statement line (st.Dim variables))
    ≡ kind_layer (StatementKind-F.Dim variables) line
words-dim line variables = at_kind line (st.Dim variables)
    ∙ ap (λ kind. kind_words kind line) (sym (st.rolls-Dim variables))
    ∙ ap (λ words. words line) (fold-roll-StatementKind (ℕ → Tokens) Tokens Tokens Tokens
    kind_layer case_layer else_if_layer statement_layer (StatementKind-F.Dim variables))

pub words-redim : (line : ℕ) → (preserve : Bool) → (arrays : List Resized)
    → statement_words (statement line (st.ReDim preserve arrays))
    ≡ kind_layer (StatementKind-F.ReDim preserve arrays) line
words-redim line preserve arrays = at_kind line (st.ReDim preserve arrays)
    ∙ ap (λ kind. kind_words kind line) (sym (st.rolls-ReDim preserve arrays))
    ∙ ap (λ words. words line) (fold-roll-StatementKind (ℕ → Tokens) Tokens Tokens Tokens
    kind_layer case_layer else_if_layer statement_layer (StatementKind-F.ReDim preserve arrays))

pub words-set : (line : ℕ) → (target : Path) → (value : Expression)
    → statement_words (statement line (st.Set target value))
    ≡ kind_layer (StatementKind-F.Set target value) line
words-set line target value = at_kind line (st.Set target value)
    ∙ ap (λ kind. kind_words kind line) (sym (st.rolls-Set target value))
    ∙ ap (λ words. words line) (fold-roll-StatementKind (ℕ → Tokens) Tokens Tokens Tokens
    kind_layer case_layer else_if_layer statement_layer (StatementKind-F.Set target value))

pub words-assign : (line : ℕ) → (target : Path) → (value : Expression)
    → statement_words (statement line (st.Assign target value))
    ≡ kind_layer (StatementKind-F.Assign target value) line
words-assign line target value = at_kind line (st.Assign target value)
    ∙ ap (λ kind. kind_words kind line) (sym (st.rolls-Assign target value))
    ∙ ap (λ words. words line) (fold-roll-StatementKind (ℕ → Tokens) Tokens Tokens Tokens
    kind_layer case_layer else_if_layer statement_layer (StatementKind-F.Assign target value))

pub words-call : (line : ℕ) → (callee : Path) → (arguments : List Expression)
    → statement_words (statement line (st.Call callee arguments))
    ≡ kind_layer (StatementKind-F.Call callee arguments) line
words-call line callee arguments = at_kind line (st.Call callee arguments)
    ∙ ap (λ kind. kind_words kind line) (sym (st.rolls-Call callee arguments))
    ∙ ap (λ words. words line) (fold-roll-StatementKind (ℕ → Tokens) Tokens Tokens Tokens
    kind_layer case_layer else_if_layer statement_layer (StatementKind-F.Call callee arguments))

pub words-call_path : (line : ℕ) → (callee : Path) → statement_words (statement line (st.CallPath callee))
    ≡ kind_layer (StatementKind-F.CallPath callee) line
words-call_path line callee = at_kind line (st.CallPath callee)
    ∙ ap (λ kind. kind_words kind line) (sym (st.rolls-CallPath callee))
    ∙ ap (λ words. words line) (fold-roll-StatementKind (ℕ → Tokens) Tokens Tokens Tokens
    kind_layer case_layer else_if_layer statement_layer (StatementKind-F.CallPath callee))

pub words-if : (line : ℕ) → (condition : Expression) → (then : List Statement) → (others : List ElseIf)
    → (otherwise : Option (List Statement)) → statement_words (statement line (st.If condition then others otherwise))
    ≡ kind_layer (StatementKind-F.If condition (map statement_words then) (map else_if_words others) (option_map
    (map statement_words) otherwise)) line
words-if line condition then others None = at_kind line (st.If condition then others None)
    ∙ ap (λ kind. kind_words kind line) (sym (st.rolls-If condition then others None))
    ∙ ap (λ words. words line) (fold-roll-StatementKind (ℕ → Tokens) Tokens Tokens Tokens
    kind_layer case_layer else_if_layer statement_layer (StatementKind-F.If condition then others None))
words-if line condition then others (Some body) = at_kind line (st.If condition then others (Some body))
    ∙ ap (λ kind. kind_words kind line) (sym (st.rolls-If condition then others (Some body)))
    ∙ ap (λ words. words line) (fold-roll-StatementKind (ℕ → Tokens) Tokens Tokens Tokens
    kind_layer case_layer else_if_layer statement_layer (StatementKind-F.If condition then others (Some body)))

pub words-line_if : (line : ℕ) → (condition : Expression) → (then : List Statement)
    → (otherwise : Option (List Statement)) → statement_words (statement line (st.LineIf condition then otherwise))
    ≡ kind_layer (StatementKind-F.LineIf condition (map statement_words then) (option_map
    (map statement_words) otherwise)) line
words-line_if line condition then None = at_kind line (st.LineIf condition then None)
    ∙ ap (λ kind. kind_words kind line) (sym (st.rolls-LineIf condition then None))
    ∙ ap (λ words. words line) (fold-roll-StatementKind (ℕ → Tokens) Tokens Tokens Tokens
    kind_layer case_layer else_if_layer statement_layer (StatementKind-F.LineIf condition then None))
words-line_if line condition then (Some body) = at_kind line (st.LineIf condition then (Some body))
    ∙ ap (λ kind. kind_words kind line) (sym (st.rolls-LineIf condition then (Some body)))
    ∙ ap (λ words. words line) (fold-roll-StatementKind (ℕ → Tokens) Tokens Tokens Tokens
    kind_layer case_layer else_if_layer statement_layer (StatementKind-F.LineIf condition then (Some body)))

pub words-select : (line : ℕ) → (subject : Expression) → (cases : List Case)
    → (otherwise : Option (List Statement)) → statement_words (statement line (st.Select subject cases otherwise))
    ≡ kind_layer (StatementKind-F.Select subject (map case_words cases) (option_map
    (map statement_words) otherwise)) line
words-select line subject cases None = at_kind line (st.Select subject cases None)
    ∙ ap (λ kind. kind_words kind line) (sym (st.rolls-Select subject cases None))
    ∙ ap (λ words. words line) (fold-roll-StatementKind (ℕ → Tokens) Tokens Tokens Tokens
    kind_layer case_layer else_if_layer statement_layer (StatementKind-F.Select subject cases None))
words-select line subject cases (Some body) = at_kind line (st.Select subject cases (Some body))
    ∙ ap (λ kind. kind_words kind line) (sym (st.rolls-Select subject cases (Some body)))
    ∙ ap (λ words. words line) (fold-roll-StatementKind (ℕ → Tokens) Tokens Tokens Tokens
    kind_layer case_layer else_if_layer statement_layer (StatementKind-F.Select subject cases (Some body)))

pub words-for : (line : ℕ) → (variable : List ℕ) → (from : Expression) → (to : Expression)
    → (by : Option Expression) → (body : List Statement)
    → statement_words (statement line (st.For variable from to by body))
    ≡ kind_layer (StatementKind-F.For variable from to by (map statement_words body)) line
words-for line variable from to by body = at_kind line (st.For variable from to by body)
    ∙ ap (λ kind. kind_words kind line) (sym (st.rolls-For variable from to by body))
    ∙ ap (λ words. words line) (fold-roll-StatementKind (ℕ → Tokens) Tokens Tokens Tokens
    kind_layer case_layer else_if_layer statement_layer (StatementKind-F.For variable from to by body))

pub words-for_each : (line : ℕ) → (variable : List ℕ) → (group : Expression) → (body : List Statement)
    → statement_words (statement line (st.ForEach variable group body))
    ≡ kind_layer (StatementKind-F.ForEach variable group (map statement_words body)) line
words-for_each line variable group body = at_kind line (st.ForEach variable group body)
    ∙ ap (λ kind. kind_words kind line) (sym (st.rolls-ForEach variable group body))
    ∙ ap (λ words. words line) (fold-roll-StatementKind (ℕ → Tokens) Tokens Tokens Tokens
    kind_layer case_layer else_if_layer statement_layer (StatementKind-F.ForEach variable group body))

pub words-do : (line : ℕ) → (repeated : Repetition) → (body : List Statement)
    → statement_words (statement line (st.Do repeated body))
    ≡ kind_layer (StatementKind-F.Do repeated (map statement_words body)) line
words-do line repeated body = at_kind line (st.Do repeated body)
    ∙ ap (λ kind. kind_words kind line) (sym (st.rolls-Do repeated body))
    ∙ ap (λ words. words line) (fold-roll-StatementKind (ℕ → Tokens) Tokens Tokens Tokens
    kind_layer case_layer else_if_layer statement_layer (StatementKind-F.Do repeated body))

pub words-while : (line : ℕ) → (condition : Expression) → (body : List Statement)
    → statement_words (statement line (st.While condition body))
    ≡ kind_layer (StatementKind-F.While condition (map statement_words body)) line
words-while line condition body = at_kind line (st.While condition body)
    ∙ ap (λ kind. kind_words kind line) (sym (st.rolls-While condition body))
    ∙ ap (λ words. words line) (fold-roll-StatementKind (ℕ → Tokens) Tokens Tokens Tokens
    kind_layer case_layer else_if_layer statement_layer (StatementKind-F.While condition body))

pub words-with : (line : ℕ) → (subject : Expression) → (body : List Statement)
    → statement_words (statement line (st.With subject body))
    ≡ kind_layer (StatementKind-F.With subject (map statement_words body)) line
words-with line subject body = at_kind line (st.With subject body)
    ∙ ap (λ kind. kind_words kind line) (sym (st.rolls-With subject body))
    ∙ ap (λ words. words line) (fold-roll-StatementKind (ℕ → Tokens) Tokens Tokens Tokens
    kind_layer case_layer else_if_layer statement_layer (StatementKind-F.With subject body))

pub words-exit : (line : ℕ) → (left : ExitKind) → statement_words (statement line (st.Exit left))
    ≡ kind_layer (StatementKind-F.Exit left) line
words-exit line left = at_kind line (st.Exit left)
    ∙ ap (λ kind. kind_words kind line) (sym (st.rolls-Exit left))
    ∙ ap (λ words. words line) (fold-roll-StatementKind (ℕ → Tokens) Tokens Tokens Tokens
    kind_layer case_layer else_if_layer statement_layer (StatementKind-F.Exit left))

pub words-resume_next : (line : ℕ) → statement_words (statement line st.OnErrorResumeNext)
    ≡ kind_layer StatementKind-F.OnErrorResumeNext line
words-resume_next line = at_kind line st.OnErrorResumeNext
    ∙ ap (λ kind. kind_words kind line) (sym st.rolls-OnErrorResumeNext)
    ∙ ap (λ words. words line) (fold-roll-StatementKind (ℕ → Tokens) Tokens Tokens Tokens
    kind_layer case_layer else_if_layer statement_layer StatementKind-F.OnErrorResumeNext)

pub words-go_to_zero : (line : ℕ) → statement_words (statement line st.OnErrorGoToZero)
    ≡ kind_layer StatementKind-F.OnErrorGoToZero line
words-go_to_zero line = at_kind line st.OnErrorGoToZero
    ∙ ap (λ kind. kind_words kind line) (sym st.rolls-OnErrorGoToZero)
    ∙ ap (λ words. words line) (fold-roll-StatementKind (ℕ → Tokens) Tokens Tokens Tokens
    kind_layer case_layer else_if_layer statement_layer StatementKind-F.OnErrorGoToZero)

pub words-erase : (line : ℕ) → (names : List (List ℕ)) → statement_words (statement line (st.Erase names))
    ≡ kind_layer (StatementKind-F.Erase names) line
words-erase line names = at_kind line (st.Erase names)
    ∙ ap (λ kind. kind_words kind line) (sym (st.rolls-Erase names))
    ∙ ap (λ words. words line) (fold-roll-StatementKind (ℕ → Tokens) Tokens Tokens Tokens
    kind_layer case_layer else_if_layer statement_layer (StatementKind-F.Erase names))

pub words-page_text : (line : ℕ) → (text : List ℕ) → statement_words (statement line (st.PageText text))
    ≡ kind_layer (StatementKind-F.PageText text) line
words-page_text line text = at_kind line (st.PageText text)
    ∙ ap (λ kind. kind_words kind line) (sym (st.rolls-PageText text))
    ∙ ap (λ words. words line) (fold-roll-StatementKind (ℕ → Tokens) Tokens Tokens Tokens
    kind_layer case_layer else_if_layer statement_layer (StatementKind-F.PageText text))

pub words-page_write : (line : ℕ) → (value : Expression) → statement_words (statement line (st.PageWrite value))
    ≡ kind_layer (StatementKind-F.PageWrite value) line
words-page_write line value = at_kind line (st.PageWrite value)
    ∙ ap (λ kind. kind_words kind line) (sym (st.rolls-PageWrite value))
    ∙ ap (λ words. words line) (fold-roll-StatementKind (ℕ → Tokens) Tokens Tokens Tokens
    kind_layer case_layer else_if_layer statement_layer (StatementKind-F.PageWrite value))

pub words-else_if : (line : ℕ) (condition : Expression) (then : List Statement)
    → else_if_words (roll-ElseIf (record { line = line; condition = condition; then = then }))
    ≡ else_if_layer (record { line = line; condition = condition; then = map statement_words then })
words-else_if line condition then = fold-roll-ElseIf (ℕ → Tokens) Tokens Tokens Tokens
    kind_layer case_layer else_if_layer statement_layer
    (record { line = line; condition = condition; then = then })

pub words-case : (line : ℕ) (values : List Expression) (body : List Statement)
    → case_words (roll-Case (record { line = line; values = values; body = body }))
    ≡ case_layer (record { line = line; values = values; body = map statement_words body })
words-case line values body = fold-roll-Case (ℕ → Tokens) Tokens Tokens Tokens
    kind_layer case_layer else_if_layer statement_layer
    (record { line = line; values = values; body = body })
