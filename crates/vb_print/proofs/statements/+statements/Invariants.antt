use Rattle.std.proofs.Common.{◌≡◌, ◌∷◌, ◌++◌, map, take, ◌*◌, ◌+◌, ◌-◌}
use Rattle.std.specs.List.{flat_map}
use Rattle.vb_value.specs.declared.token.Symbol.TheVariants as s
use Rattle.vb_syntax.specs.declared.statement.StatementKind.{size-StatementKind}
use Rattle.vb_syntax.specs.declared.statement.StatementKind.TheVariants as st
use Rattle.vb_syntax.specs.grammar.Rules.{Tokens}
use Rattle.vb_print.specs.Words.{symbol}
use Rattle.vb_print.specs.Statements as spec
use Rattle.vb_print.proofs.statements.+statements.Given as goal

abbrev pub invariant-print_body-loop-statement : goal.invariant-print_body-loop-statement
invariant-print_body-loop-statement l = l.words ≡ l.initial.words
    ++ spec.body_words l.line (take l.statement-index l.statement-items)

abbrev pub invariant-print_line-loop-statement : goal.invariant-print_line-loop-statement
invariant-print_line-loop-statement l = l.words ≡ l.initial.words ++ flat_map (λ (x : Tokens). symbol l.line
    s.Colon ∷ x) (map spec.statement_words (take l.statement-index l.more))

abbrev pub invariant-print_else_ifs-loop-other : goal.invariant-print_else_ifs-loop-other
invariant-print_else_ifs-loop-other l = l.words ≡ l.initial.words ++ flat_map (λ (x : Tokens). x)
    (map spec.else_if_words (take l.other-index l.other-items))

abbrev pub invariant-print_cases-loop-case : goal.invariant-print_cases-loop-case
invariant-print_cases-loop-case l = l.words ≡ l.initial.words ++ flat_map (λ (x : Tokens). x)
    (map spec.case_words (take l.case-index l.case-items))

-- The measures go by depth, a caller above what it calls with the same tree. Those of a whole `If` or `Select` stand
-- right below that of the kind, which has the same depth.
abbrev pub decreases-print_statement : goal.decreases-print_statement
decreases-print_statement l = 5 * goal.size-print_statement l

abbrev pub decreases-print_kind : goal.decreases-print_kind
decreases-print_kind l = 5 * goal.size-print_kind l

abbrev pub decreases-print_if : goal.decreases-print_if
decreases-print_if l = 5 * size-StatementKind (st.If l.condition.now l.then.now l.others.now l.otherwise.now) - 1

abbrev pub decreases-print_line_if : goal.decreases-print_line_if
decreases-print_line_if l = 5 * size-StatementKind (st.LineIf l.condition.now l.then.now l.otherwise.now) - 1

abbrev pub decreases-print_select : goal.decreases-print_select
decreases-print_select l = 5 * size-StatementKind (st.Select l.subject.now l.cases.now l.otherwise.now) - 1

abbrev pub decreases-print_body : goal.decreases-print_body
decreases-print_body l = 5 * goal.size-print_body l + 1

abbrev pub decreases-print_line : goal.decreases-print_line
decreases-print_line l = 5 * goal.size-print_line l + 1

abbrev pub decreases-print_then : goal.decreases-print_then
decreases-print_then l = 5 * goal.size-print_then l + 2

abbrev pub decreases-print_else_ifs : goal.decreases-print_else_ifs
decreases-print_else_ifs l = 5 * goal.size-print_else_ifs l + 1

abbrev pub decreases-print_else_if : goal.decreases-print_else_if
decreases-print_else_if l = 5 * goal.size-print_else_if l

abbrev pub decreases-print_else : goal.decreases-print_else
decreases-print_else l = 5 * goal.size-print_else l + 2

abbrev pub decreases-print_line_then : goal.decreases-print_line_then
decreases-print_line_then l = 5 * goal.size-print_line_then l + 2

abbrev pub decreases-print_line_else : goal.decreases-print_line_else
decreases-print_line_else l = 5 * goal.size-print_line_else l + 2

abbrev pub decreases-print_cases : goal.decreases-print_cases
decreases-print_cases l = 5 * goal.size-print_cases l + 1

abbrev pub decreases-print_case : goal.decreases-print_case
decreases-print_case l = 5 * goal.size-print_case l

abbrev pub decreases-print_case_else : goal.decreases-print_case_else
decreases-print_case_else l = 5 * goal.size-print_case_else l + 3

abbrev pub decreases-print_for : goal.decreases-print_for
decreases-print_for l = 5 * goal.size-print_for l + 2

abbrev pub decreases-print_for_each : goal.decreases-print_for_each
decreases-print_for_each l = 5 * goal.size-print_for_each l + 2

abbrev pub decreases-print_do : goal.decreases-print_do
decreases-print_do l = 5 * goal.size-print_do l + 2

abbrev pub decreases-print_while : goal.decreases-print_while
decreases-print_while l = 5 * goal.size-print_while l + 2

abbrev pub decreases-print_with : goal.decreases-print_with
decreases-print_with l = 5 * goal.size-print_with l + 2
