-- Expressions and statements with each name as what it stands for, by recursion over them.
use Rattle.std.specs.Prelude.{ℕ, ◌-◌, Bool, true, false, not, ◌&&◌, nat_lt, if◌then◌else◌, List, [], ◌∷◌, ◌++◌, map}
use Rattle.std.specs.Prelude.{Option, Some, None}
use Rattle.vb_syntax.specs.declared.expression.Expression.{Expression, out-Expression}
use Rattle.vb_syntax.specs.declared.expression.Expression.TheOpen.{Expression-F, Operation-F, Path-F, Step-F}
use Rattle.vb_syntax.specs.declared.expression.Expression.TheFolds.{fold-Expression, fold-Operation, fold-Path, fold-Step}
use Rattle.vb_syntax.specs.declared.expression.Operation.{Operation}
use Rattle.vb_syntax.specs.declared.expression.Path.{Path}
use Rattle.vb_syntax.specs.declared.expression.PathHead.{PathHead}
use Rattle.vb_syntax.specs.declared.expression.PathHead.TheVariants as head
use Rattle.vb_syntax.specs.declared.expression.Step.{Step}
use Rattle.vb_syntax.specs.declared.member_table.MemberRow.{MemberRow}
use Rattle.vb_syntax.specs.declared.note.PageObject.{PageObject}
use Rattle.vb_syntax.specs.declared.note.PathUse.{PathUse}
use Rattle.vb_syntax.specs.declared.note.PathUse.TheVariants as as_a
use Rattle.vb_syntax.specs.declared.note.Shape.{Shape}
use Rattle.vb_syntax.specs.declared.note.Shape.TheVariants as shape
use Rattle.vb_syntax.specs.declared.program.expression.Expression.{Expression as Resolved}
use Rattle.vb_syntax.specs.declared.program.expression.Expression.TheVariants as e
use Rattle.vb_syntax.specs.declared.program.expression.Head.{Head}
use Rattle.vb_syntax.specs.declared.program.expression.Head.TheVariants as begins
use Rattle.vb_syntax.specs.declared.program.expression.Operation.{Operation as ResolvedOperation, roll-Operation}
use Rattle.vb_syntax.specs.declared.program.expression.Path.{Path as ResolvedPath, roll-Path}
use Rattle.vb_syntax.specs.declared.program.expression.Step.{Step as ResolvedStep}
use Rattle.vb_syntax.specs.declared.program.expression.Step.TheVariants as behind
use Rattle.vb_syntax.specs.declared.program.name.Named.{Named}
use Rattle.vb_syntax.specs.declared.program.name.Named.TheVariants as named
use Rattle.vb_syntax.specs.declared.program.statement.Case.{Case as ResolvedCase, roll-Case}
use Rattle.vb_syntax.specs.declared.program.statement.Condition.{Condition as ResolvedCondition}
use Rattle.vb_syntax.specs.declared.program.statement.ElseIf.{ElseIf as ResolvedElseIf, roll-ElseIf}
use Rattle.vb_syntax.specs.declared.program.statement.Repetition.{Repetition as ResolvedRepetition}
use Rattle.vb_syntax.specs.declared.program.statement.Repetition.TheVariants as repeats
use Rattle.vb_syntax.specs.declared.program.statement.Resized.{Resized as ResolvedResized}
use Rattle.vb_syntax.specs.declared.program.statement.Statement.{Statement as ResolvedStatement, roll-Statement}
use Rattle.vb_syntax.specs.declared.program.statement.StatementKind.{StatementKind as ResolvedKind}
use Rattle.vb_syntax.specs.declared.program.statement.StatementKind.TheVariants as st
use Rattle.vb_syntax.specs.declared.statement.Case.{Case}
use Rattle.vb_syntax.specs.declared.statement.Condition.{Condition}
use Rattle.vb_syntax.specs.declared.statement.ElseIf.{ElseIf}
use Rattle.vb_syntax.specs.declared.statement.Repetition.{Repetition}
use Rattle.vb_syntax.specs.declared.statement.Repetition.TheVariants as repetition
use Rattle.vb_syntax.specs.declared.statement.Resized.{Resized}
use Rattle.vb_syntax.specs.declared.statement.Statement.{Statement}
use Rattle.vb_syntax.specs.declared.statement.StatementKind.{StatementKind}
use Rattle.vb_syntax.specs.declared.statement.StatementKind.TheOpen.{StatementKind-F, Statement-F, ElseIf-F, Case-F}
use Rattle.vb_syntax.specs.declared.statement.StatementKind.TheFolds.{fold-Statement, fold-StatementKind}
use Rattle.vb_syntax.specs.declared.statement.StatementKind.TheFolds.{fold-Case, fold-ElseIf}
use Rattle.vb_syntax.specs.scope.Members.{member_meant, length_of, groups_behind, steps_of, err_meant}
use Rattle.vb_syntax.specs.scope.Names.{Name, name_number}
use Rattle.vb_syntax.specs.scope.Notes.{is_group}
use Rattle.vb_syntax.specs.scope.Scopes.{Scopes, named_in, object_in, standing_in}
use Rattle.vb_syntax.specs.scope.Shapes.{shape_of, is_parenthesis, call_use, has_arguments, used_steps}
use Rattle.vb_value.specs.Folding.{folded}

-- ---- paths

-- a step as it looks, and as it is in a program
abbrev pub StepPair : Type 0
StepPair = Shape × ResolvedStep

-- what stays of a step: of those that say which member is meant, the parentheses alone
abbrev pub kept_step : Bool → StepPair → List ResolvedStep
kept_step says_member step = if says_member && not (is_parenthesis step.0) then [] else step.1 ∷ []

-- the steps that stay where so many of them say which member is meant
abbrev pub kept : ℕ → List StepPair → List ResolvedStep
kept count [] = []
kept count (step ∷ steps) = kept_step (nat_lt 0 count) step ++ kept (count - 1) steps

-- what the steps look like
abbrev pub shapes : List StepPair → List Shape
shapes = map (λ (step : StepPair). step.0)

-- whether all steps are parentheses
abbrev pub only_groups : List Shape → Bool
only_groups [] = true
only_groups (shape.Group ∷ more) = only_groups more
only_groups (shape.Member name ∷ more) = false

-- whether a statement calls a path as it stands
abbrev pub is_callee : PathUse → Bool
is_callee as_a.Callee = true
is_callee _ = false

-- Whether a path calls its head: a parenthesis stands behind it, or nothing where a statement calls the path. An
-- element that is assigned to is no call.
abbrev pub is_called : PathUse → List Shape → Bool
is_called used [] = is_callee used
is_called as_a.Target (shape.Group ∷ more) = not (only_groups more)
is_called used (shape.Group ∷ more) = true
is_called used (shape.Member name ∷ more) = false

-- where a path begins in a program, and how many steps of the path say so
abbrev pub Beginning : Type 0
Beginning = Head × ℕ

-- a path of this beginning
abbrev pub resolved_path : Beginning → List StepPair → ResolvedPath
resolved_path begin steps = roll-Path (record { head = begin.0; steps = kept begin.1 steps })

-- a path that begins with what a name stands for, or with a member of Err
abbrev pub named_head : Named → List Shape → Beginning
named_head named.Err steps = (begins.Err (err_meant steps).0, (err_meant steps).1)
named_head found steps = (begins.Named found, 0)

-- a path that begins with a member of an object of the page
abbrev pub member_head : List Shape → Option MemberRow → Beginning
member_head steps None = (begins.Named named.Unknown, 0)
member_head steps (Some row) =
    (begins.Member row.member (groups_behind false (steps_of row) steps) row.takes, length_of (steps_of row))

-- the number of a class
abbrev pub class_number : Option Named → Option ℕ
class_number (Some (named.Class number)) = Some number
class_number _ = None

-- a path with the arguments of a call statement behind it
abbrev pub with_arguments : PathUse → List Resolved → ResolvedPath → ResolvedPath
with_arguments used given path = if has_arguments used
    then roll-Path (record { head = path.head; steps = path.steps ++ behind.Group given ∷ [] }) else path

-- `names` are all names of the script, and `scopes` those in which the place stands.
module _ (names : List Name) (scopes : Scopes) where
  -- a path that begins with an object of the page, or with another name
  abbrev pub object_head : PathUse → Name → List Shape → Option PageObject → Beginning
  object_head used name steps None = named_head (named_in scopes (is_called used steps) name) steps
  object_head used name steps (Some object) = member_head steps (member_meant object (is_group used) steps)

  -- a path that begins with a name
  abbrev pub name_head : PathUse → Name → List Shape → Beginning
  name_head used name steps = object_head used name steps (object_in scopes name)

  -- where a path begins
  abbrev pub head_of : PathUse → PathHead → List Shape → Beginning
  head_of used (head.Name name) steps = name_head used name steps
  head_of used head.Me steps = (begins.Me, 0)
  head_of used (head.With name) steps = (begins.With (name_number names name), 0)

  -- ---- expressions

  -- a step
  abbrev pub step_layer : Step-F Resolved StepPair ResolvedOperation (PathUse → ResolvedPath) → StepPair
  step_layer (Step-F.Member name) = (shape.Member name, behind.Member (name_number names name))
  step_layer (Step-F.Group given) = (shape.Group, behind.Group given)

  -- a path, by how it is used
  abbrev pub path_layer : Path-F Resolved StepPair ResolvedOperation (PathUse → ResolvedPath) → PathUse → ResolvedPath
  path_layer path used = resolved_path (head_of used path.head (used_steps used (shapes path.steps))) path.steps

  -- an operator with its operand
  abbrev pub operation_layer
      : Operation-F Resolved StepPair ResolvedOperation (PathUse → ResolvedPath) → ResolvedOperation
  operation_layer found = roll-Operation (record { operator = found.operator; operand = found.operand })

  -- one expression, with its parts as they are in a program
  abbrev pub expression_layer : Expression-F Resolved StepPair ResolvedOperation (PathUse → ResolvedPath) → Resolved
  expression_layer (Expression-F.Literal found) = e.Literal found
  expression_layer Expression-F.Nothing = e.Nothing
  expression_layer (Expression-F.New class) = e.New (class_number (standing_in scopes.page (folded class)))
  expression_layer (Expression-F.Path path) = e.Path (path as_a.Value)
  expression_layer (Expression-F.Parenthesis inner) = e.Parenthesis inner
  expression_layer (Expression-F.Negative operand) = e.Negative operand
  expression_layer (Expression-F.Not operand) = e.Not operand
  expression_layer (Expression-F.Chain first rest) = e.Chain first rest

  -- an expression
  abbrev pub expression_of : Expression → Resolved
  expression_of = fold-Expression Resolved StepPair ResolvedOperation (PathUse → ResolvedPath)
      expression_layer step_layer operation_layer path_layer

  -- a path that is used so
  abbrev pub path_of : Path → PathUse → ResolvedPath
  path_of = fold-Path Resolved StepPair ResolvedOperation (PathUse → ResolvedPath)
      expression_layer step_layer operation_layer path_layer

  -- a step
  abbrev pub step_of : Step → StepPair
  step_of = fold-Step Resolved StepPair ResolvedOperation (PathUse → ResolvedPath)
      expression_layer step_layer operation_layer path_layer

  -- an operator with its operand
  abbrev pub operation_of : Operation → ResolvedOperation
  operation_of = fold-Operation Resolved StepPair ResolvedOperation (PathUse → ResolvedPath)
      expression_layer step_layer operation_layer path_layer

  -- an expression, where there is one
  abbrev pub optional_of : Option Expression → Option Resolved
  optional_of None = None
  optional_of (Some found) = Some (expression_of found)

  -- the expression that a For Each goes over
  abbrev pub group_of : Expression → Resolved
  group_of group = of (out-Expression group)
    where
      of : Expression-F Expression Step Operation Path → Resolved
      of (Expression-F.Path path) = e.Path (path_of path as_a.Group)
      of _ = expression_of group

  -- ---- parts of statements

  -- what a name stands for that is written alone
  abbrev pub target_of : Name → Named
  target_of = named_in scopes false

  -- an array that gets new bounds
  abbrev pub resized_of : Resized → ResolvedResized
  resized_of found = record { name = target_of found.name; bounds = map expression_of found.bounds }

  -- the condition of a `Do`
  abbrev pub condition_of : Condition → ResolvedCondition
  condition_of found = record { is_until = found.is_until; test = expression_of found.test }

  -- which condition a `Do` has
  abbrev pub repetition_of : Repetition → ResolvedRepetition
  repetition_of repetition.Endless = repeats.Endless
  repetition_of (repetition.Before found) = repeats.Before (condition_of found)
  repetition_of (repetition.After line found) = repeats.After line (condition_of found)

  -- a call with arguments, where the callee is used so
  abbrev pub call_of : PathUse → Path → List Expression → ResolvedKind
  call_of used callee given = st.Call (with_arguments used (map expression_of given) (path_of callee used))

  -- ---- statements

  -- what a statement says, with its parts as they are in a program
  abbrev pub kind_layer : StatementKind-F ResolvedKind ResolvedCase ResolvedElseIf ResolvedStatement → ResolvedKind
  kind_layer (StatementKind-F.Const access constants) = st.Declaration
  kind_layer (StatementKind-F.Dim variables) = st.Dim
  kind_layer (StatementKind-F.ReDim preserve arrays) = st.ReDim preserve (map resized_of arrays)
  kind_layer (StatementKind-F.Set target value) = st.Set (path_of target as_a.Target) (expression_of value)
  kind_layer (StatementKind-F.Assign target value) = st.Assign (path_of target as_a.Target) (expression_of value)
  kind_layer (StatementKind-F.Call callee given) = call_of (call_use given (map shape_of callee.steps)) callee given
  kind_layer (StatementKind-F.CallPath callee) = st.Call (path_of callee as_a.Callee)
  kind_layer (StatementKind-F.If condition body others otherwise) =
      st.If (expression_of condition) body others otherwise
  kind_layer (StatementKind-F.LineIf condition body otherwise) = st.If (expression_of condition) body [] otherwise
  kind_layer (StatementKind-F.Select subject cases otherwise) = st.Select (expression_of subject) cases otherwise
  kind_layer (StatementKind-F.For variable from to by body) =
      st.For (target_of variable) (expression_of from) (expression_of to) (optional_of by) body
  kind_layer (StatementKind-F.ForEach variable group body) = st.ForEach (target_of variable) (group_of group) body
  kind_layer (StatementKind-F.Do repeated body) = st.Do (repetition_of repeated) body
  kind_layer (StatementKind-F.While condition body) = st.While (expression_of condition) body
  kind_layer (StatementKind-F.With subject body) = st.With (expression_of subject) body
  kind_layer (StatementKind-F.Exit left) = st.Exit left
  kind_layer StatementKind-F.OnErrorResumeNext = st.OnErrorResumeNext
  kind_layer StatementKind-F.OnErrorGoToZero = st.OnErrorGoToZero
  kind_layer (StatementKind-F.Erase erased) = st.Erase (map target_of erased)
  kind_layer (StatementKind-F.PageText text) = st.PageText text
  kind_layer (StatementKind-F.PageWrite value) = st.PageWrite (expression_of value)

  -- a statement
  abbrev pub statement_layer
      : Statement-F ResolvedKind ResolvedCase ResolvedElseIf ResolvedStatement → ResolvedStatement
  statement_layer found = roll-Statement (record { line = found.line; kind = found.kind })

  -- an `ElseIf` part
  abbrev pub else_if_layer : ElseIf-F ResolvedKind ResolvedCase ResolvedElseIf ResolvedStatement → ResolvedElseIf
  else_if_layer found = roll-ElseIf (record {
    line = found.line;
    condition = expression_of found.condition;
    then = found.then;
  })

  -- a `Case` part
  abbrev pub case_layer : Case-F ResolvedKind ResolvedCase ResolvedElseIf ResolvedStatement → ResolvedCase
  case_layer found = roll-Case (record {
    line = found.line;
    values = map expression_of found.values;
    body = found.body;
  })

  -- a statement
  abbrev pub statement_of : Statement → ResolvedStatement
  statement_of = fold-Statement ResolvedKind ResolvedCase ResolvedElseIf ResolvedStatement
      kind_layer case_layer else_if_layer statement_layer

  -- what a statement says
  abbrev pub kind_of : StatementKind → ResolvedKind
  kind_of = fold-StatementKind ResolvedKind ResolvedCase ResolvedElseIf ResolvedStatement
      kind_layer case_layer else_if_layer statement_layer

  -- an `ElseIf` part
  abbrev pub else_if_of : ElseIf → ResolvedElseIf
  else_if_of = fold-ElseIf ResolvedKind ResolvedCase ResolvedElseIf ResolvedStatement
      kind_layer case_layer else_if_layer statement_layer

  -- a `Case` part
  abbrev pub case_of : Case → ResolvedCase
  case_of = fold-Case ResolvedKind ResolvedCase ResolvedElseIf ResolvedStatement
      kind_layer case_layer else_if_layer statement_layer
