use Rattle.std.proofs.Common.{◌≡◌, map, take, ◌*◌, ◌+◌, ◌-◌}
use Rattle.vb_syntax.specs.declared.statement.StatementKind.{size-StatementKind}
use Rattle.vb_syntax.specs.declared.statement.StatementKind.TheVariants as st
use Rattle.vb_syntax.specs.scope.Trees as spec
use Rattle.vb_names.specs.Declarations.{scopes_seen}
use Rattle.vb_scope.proofs.trees.statements.+blocks.Given as goal

abbrev pub invariant-block-loop-one : goal.invariant-block-loop-one
invariant-block-loop-one l =
    l.all ≡ map (spec.statement_of l.place.names.now (scopes_seen l.place.scopes)) (take l.one-index l.one-items)

abbrev pub invariant-else_ifs-loop-one : goal.invariant-else_ifs-loop-one
invariant-else_ifs-loop-one l =
    l.all ≡ map (spec.else_if_of l.place.names.now (scopes_seen l.place.scopes)) (take l.one-index l.one-items)

abbrev pub invariant-cases-loop-one : goal.invariant-cases-loop-one
invariant-cases-loop-one l =
    l.all ≡ map (spec.case_of l.place.names.now (scopes_seen l.place.scopes)) (take l.one-index l.one-items)

-- The measures go by depth, a caller above what it calls with the same tree. Those of a whole statement that holds
-- others stand right below that of the kind, which has the same depth.
abbrev pub decreases-statement : goal.decreases-statement
decreases-statement l = 4 * goal.size-statement l

abbrev pub decreases-kind : goal.decreases-kind
decreases-kind l = 4 * goal.size-kind l

abbrev pub decreases-if_on_lines : goal.decreases-if_on_lines
decreases-if_on_lines l = 4 * size-StatementKind (st.If l.condition.now l.then.now l.others.now l.last.now) - 1

abbrev pub decreases-if_on_line : goal.decreases-if_on_line
decreases-if_on_line l = 4 * size-StatementKind (st.LineIf l.condition.now l.then.now l.last.now) - 1

abbrev pub decreases-select_block : goal.decreases-select_block
decreases-select_block l = 4 * size-StatementKind (st.Select l.subject.now l.found.now l.last.now) - 1

abbrev pub decreases-otherwise : goal.decreases-otherwise
decreases-otherwise l = 4 * goal.size-otherwise l + 2

abbrev pub decreases-block : goal.decreases-block
decreases-block l = 4 * goal.size-block l + 1

abbrev pub decreases-else_ifs : goal.decreases-else_ifs
decreases-else_ifs l = 4 * goal.size-else_ifs l + 1

abbrev pub decreases-cases : goal.decreases-cases
decreases-cases l = 4 * goal.size-cases l + 1
