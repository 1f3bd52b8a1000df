use Rattle.std.proofs.Common.{◌≡◌, ◌++◌, map, take, ◌*◌, ◌+◌, ◌-◌}
use Rattle.vb_syntax.specs.declared.statement.StatementKind.{size-StatementKind}
use Rattle.vb_syntax.specs.declared.statement.StatementKind.TheVariants as st
use Rattle.vb_syntax.specs.scope.Notes as spec
use Rattle.vb_notes.proofs.notes.statements.+statements.Given as goal

abbrev pub invariant-note_block-loop-statement : goal.invariant-note_block-loop-statement
invariant-note_block-loop-statement l = l.notes ≡ l.initial.notes
    ++ spec.body_notes l.around (take l.statement-index l.statement-items)

abbrev pub invariant-note_else_ifs-loop-other : goal.invariant-note_else_ifs-loop-other
invariant-note_else_ifs-loop-other l = l.notes ≡ l.initial.notes
    ++ spec.block_notes l.around (map spec.else_if_notes (take l.other-index l.other-items))

abbrev pub invariant-note_cases-loop-case : goal.invariant-note_cases-loop-case
invariant-note_cases-loop-case l = l.notes ≡ l.initial.notes
    ++ spec.block_notes l.around (map spec.case_notes (take l.case-index l.case-items))

-- The measures go by depth, a caller above what it calls with the same tree. Those of a whole `If` or `Select` stand
-- right below that of the kind, which has the same depth.
abbrev pub decreases-note_statement : goal.decreases-note_statement
decreases-note_statement l = 4 * goal.size-note_statement l

abbrev pub decreases-note_kind : goal.decreases-note_kind
decreases-note_kind l = 4 * goal.size-note_kind l

abbrev pub decreases-note_if : goal.decreases-note_if
decreases-note_if l = 4 * size-StatementKind (st.If l.condition.now l.then.now l.others.now l.otherwise.now) - 1

abbrev pub decreases-note_line_if : goal.decreases-note_line_if
decreases-note_line_if l = 4 * size-StatementKind (st.LineIf l.condition.now l.then.now l.otherwise.now) - 1

abbrev pub decreases-note_select : goal.decreases-note_select
decreases-note_select l = 4 * size-StatementKind (st.Select l.subject.now l.cases.now l.otherwise.now) - 1

abbrev pub decreases-note_block : goal.decreases-note_block
decreases-note_block l = 4 * goal.size-note_block l + 1

abbrev pub decreases-note_else_ifs : goal.decreases-note_else_ifs
decreases-note_else_ifs l = 4 * goal.size-note_else_ifs l + 1

abbrev pub decreases-note_cases : goal.decreases-note_cases
decreases-note_cases l = 4 * goal.size-note_cases l + 1

abbrev pub decreases-note_tested : goal.decreases-note_tested
decreases-note_tested l = 4 * goal.size-note_tested l + 2

abbrev pub decreases-note_otherwise : goal.decreases-note_otherwise
decreases-note_otherwise l = 4 * goal.size-note_otherwise l + 2

abbrev pub decreases-note_for : goal.decreases-note_for
decreases-note_for l = 4 * goal.size-note_for l + 2

abbrev pub decreases-note_for_each : goal.decreases-note_for_each
decreases-note_for_each l = 4 * goal.size-note_for_each l + 2

abbrev pub decreases-note_do : goal.decreases-note_do
decreases-note_do l = 4 * goal.size-note_do l + 2

abbrev pub decreases-note_with : goal.decreases-note_with
decreases-note_with l = 4 * goal.size-note_with l + 2

abbrev pub decreases-note_else_if : goal.decreases-note_else_if
decreases-note_else_if l = 4 * goal.size-note_else_if l

abbrev pub decreases-note_case : goal.decreases-note_case
decreases-note_case l = 4 * goal.size-note_case l
