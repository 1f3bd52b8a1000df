-- What a script says of names, by recursion over it, in the order of its places: what a construct says itself comes
-- before what its parts say, and those stand from left to right.
use Rattle.std.specs.Prelude.{ℕ, Bool, true, false, not, ◌&&◌, if◌then◌else◌, nat_lt, List, [], ◌∷◌, ◌++◌, length}
use Rattle.std.specs.Prelude.{map, Option, Some, None, ℤ}
use Rattle.std.specs.List.{flat_map}
use Rattle.vb_syntax.specs.declared.declaration.Constant.{Constant}
use Rattle.vb_syntax.specs.declared.declaration.Declared.{Declared}
use Rattle.vb_syntax.specs.declared.expression.Expression.{Expression, out-Expression}
use Rattle.vb_syntax.specs.declared.expression.Expression.TheOpen.{Expression-F, Operation-F, Path-F, Step-F}
use Rattle.vb_syntax.specs.declared.expression.Expression.TheFolds.{fold-Expression, fold-Operation, fold-Path, fold-Step}
use Rattle.vb_syntax.specs.declared.expression.Operation.{Operation}
use Rattle.vb_syntax.specs.declared.expression.Path.{Path}
use Rattle.vb_syntax.specs.declared.expression.PathHead.{PathHead}
use Rattle.vb_syntax.specs.declared.expression.PathHead.TheVariants as head
use Rattle.vb_syntax.specs.declared.expression.Step.{Step}
use Rattle.vb_syntax.specs.declared.note.Around.{Around}
use Rattle.vb_syntax.specs.declared.note.Note.{Note}
use Rattle.vb_syntax.specs.declared.note.NoteKind.{NoteKind}
use Rattle.vb_syntax.specs.declared.note.NoteKind.TheVariants as say
use Rattle.vb_syntax.specs.declared.note.PathUse.{PathUse}
use Rattle.vb_syntax.specs.declared.note.PathUse.TheVariants as as_a
use Rattle.vb_syntax.specs.declared.note.ScopeFault.{ScopeFault}
use Rattle.vb_syntax.specs.declared.note.ScopeFault.TheVariants as fault
use Rattle.vb_syntax.specs.declared.note.Shape.{Shape}
use Rattle.vb_syntax.specs.declared.note.Shape.TheVariants as shape
use Rattle.vb_syntax.specs.declared.statement.Case.{Case}
use Rattle.vb_syntax.specs.declared.statement.ElseIf.{ElseIf}
use Rattle.vb_syntax.specs.declared.statement.ExitKind.{ExitKind}
use Rattle.vb_syntax.specs.declared.statement.ExitKind.TheVariants as exit
use Rattle.vb_syntax.specs.declared.statement.Repetition.{Repetition}
use Rattle.vb_syntax.specs.declared.statement.Repetition.TheVariants as repetition
use Rattle.vb_syntax.specs.declared.statement.Resized.{Resized}
use Rattle.vb_syntax.specs.declared.statement.Statement.{Statement}
use Rattle.vb_syntax.specs.declared.statement.StatementKind.{StatementKind}
use Rattle.vb_syntax.specs.declared.statement.StatementKind.TheOpen.{StatementKind-F, Statement-F, ElseIf-F, Case-F}
use Rattle.vb_syntax.specs.declared.statement.StatementKind.TheFolds.{fold-Statement, fold-StatementKind}
use Rattle.vb_syntax.specs.declared.statement.StatementKind.TheFolds.{fold-Case, fold-ElseIf}
use Rattle.vb_syntax.specs.scope.Names.{Name}
use Rattle.vb_syntax.specs.scope.Shapes.{shape_of, stands_alone, call_use, used_steps}

-- what a part of a script says
abbrev pub Notes : Type 0
Notes = List Note

-- one thing that is said in a line
abbrev pub note : ℕ → NoteKind → Notes
note line kind = record { line = line; kind = kind } ∷ []

-- a fault, unless the fact holds
abbrev pub unless : Bool → ScopeFault → ℕ → Notes
unless true fault line = []
unless false fault line = note line (say.Fault fault)

-- TooMany, where there are more than so many
abbrev pub at_most : ℕ → ℕ → ℕ → Notes
at_most most count line = unless (not (nat_lt most count)) fault.TooMany line

-- more than 60 dimensions
abbrev pub dimensions : ℕ → ℕ → Notes
dimensions = at_most 60

-- more than 255 arguments
abbrev pub arguments : ℕ → ℕ → Notes
arguments = at_most 255

-- ---- expressions

-- whether a path is used as a target
abbrev pub is_target : PathUse → Bool
is_target as_a.Target = true
is_target _ = false

-- whether a For Each goes over a path
abbrev pub is_group : PathUse → Bool
is_group as_a.Group = true
is_group _ = false

-- a name at the head of a path
abbrev pub named_notes : ℕ → PathUse → Name → List Shape → Notes
named_notes line used name steps =
    if is_target used && stands_alone steps then note line (say.Write name)
    else note line (say.Use name steps (is_group used))

-- `line` is that of the statement, and `around` what stands around it.
module _ (line : ℕ) (around : Around) where
  -- Where a path begins. `Me` stands in a class, and a leading `.` in a With.
  abbrev pub head_notes : PathUse → PathHead → List Shape → Notes
  head_notes used (head.Name name) steps = named_notes line used name steps
  head_notes used head.Me steps = unless around.in_class fault.BadMember line
  head_notes used (head.With name) steps =
      unless around.in_with fault.BadMember line ++ note line (say.Part name)

  -- a step of a path, what it looks like and what it says
  abbrev pub step_layer : Step-F Notes (Shape × Notes) Notes (PathUse → Notes) → Shape × Notes
  step_layer (Step-F.Member name) = (shape.Member name, note line (say.Part name))
  step_layer (Step-F.Group given) =
      (shape.Group, arguments (length given) line ++ flat_map (λ (x : Notes). x) given)

  -- a path that is used so
  abbrev pub path_layer : Path-F Notes (Shape × Notes) Notes (PathUse → Notes) → PathUse → Notes
  path_layer path used = head_notes used path.head (used_steps used (map (λ (step : Shape × Notes). step.0) path.steps))
      ++ flat_map (λ (step : Shape × Notes). step.1) path.steps

  -- an operator with its operand
  abbrev pub operation_layer : Operation-F Notes (Shape × Notes) Notes (PathUse → Notes) → Notes
  operation_layer operation = operation.operand

  -- one expression, with what its parts say in their place
  abbrev pub expression_layer : Expression-F Notes (Shape × Notes) Notes (PathUse → Notes) → Notes
  expression_layer (Expression-F.Literal found) = []
  expression_layer Expression-F.Nothing = []
  expression_layer (Expression-F.New class) = note line (say.Part class)
  expression_layer (Expression-F.Path path) = path as_a.Value
  expression_layer (Expression-F.Parenthesis inner) = inner
  expression_layer (Expression-F.Negative operand) = operand
  expression_layer (Expression-F.Not operand) = operand
  expression_layer (Expression-F.Chain first rest) = first ++ flat_map (λ (x : Notes). x) rest

  -- what an expression says
  abbrev pub expression_notes : Expression → Notes
  expression_notes = fold-Expression Notes (Shape × Notes) Notes (PathUse → Notes)
      expression_layer step_layer operation_layer path_layer

  -- what a path says that is used so
  abbrev pub path_notes : Path → PathUse → Notes
  path_notes = fold-Path Notes (Shape × Notes) Notes (PathUse → Notes)
      expression_layer step_layer operation_layer path_layer

  -- what an operator says with its operand
  abbrev pub operation_notes : Operation → Notes
  operation_notes = fold-Operation Notes (Shape × Notes) Notes (PathUse → Notes)
      expression_layer step_layer operation_layer path_layer

  -- what a step of a path looks like and says
  abbrev pub step_notes : Step → Shape × Notes
  step_notes = fold-Step Notes (Shape × Notes) Notes (PathUse → Notes)
      expression_layer step_layer operation_layer path_layer

  -- what some expressions say
  abbrev pub expressions_notes : List Expression → Notes
  expressions_notes expressions = flat_map (λ (x : Notes). x) (map expression_notes expressions)

  -- what an expression says, where there is one
  abbrev pub optional_notes : Option Expression → Notes
  optional_notes None = []
  optional_notes (Some found) = expression_notes found

  -- what the expression says that a For Each goes over
  abbrev pub group_notes : Expression → Notes
  group_notes group = of (out-Expression group)
    where
      of : Expression-F Expression Step Operation Path → Notes
      of (Expression-F.Path path) = path_notes path as_a.Group
      of _ = expression_notes group

-- ---- declarations and simple statements

-- a declared variable, and its dimensions
abbrev pub variable_notes : ℕ → Declared → Notes
variable_notes line found = note line (say.Variable found) ++ of found.bounds
  where
    of : Option (List ℤ) → Notes
    of None = []
    of (Some bounds) = dimensions (length bounds) line

-- a declared constant
abbrev pub constant_notes : ℕ → Constant → Notes
constant_notes line found = note line (say.Constant found)

-- an array that gets new bounds
abbrev pub resized_notes : ℕ → Around → Resized → Notes
resized_notes line around found = note line (say.Resize found.name)
    ++ dimensions (length found.bounds) line ++ expressions_notes line around found.bounds

-- a name that is written alone
abbrev pub write_notes : ℕ → Name → Notes
write_notes line name = note line (say.Write name)

-- whether an Exit stands inside what it names. A procedure's border is around what stands in the procedure.
abbrev pub is_inside : Around → ExitKind → Bool
is_inside around exit.Do = around.in_do
is_inside around exit.For = around.in_for
is_inside around exit.Sub = is_left_by_sub around.procedure
  where
    is_left_by_sub : Option ExitKind → Bool
    is_left_by_sub (Some exit.Sub) = true
    is_left_by_sub _ = false
is_inside around exit.Function = is_left_by_function around.procedure
  where
    is_left_by_function : Option ExitKind → Bool
    is_left_by_function (Some exit.Function) = true
    is_left_by_function _ = false
is_inside around exit.Property = is_left_by_property around.procedure
  where
    is_left_by_property : Option ExitKind → Bool
    is_left_by_property (Some exit.Property) = true
    is_left_by_property _ = false

-- the condition of a `Do`, where it stands before its block
abbrev pub before_notes : ℕ → Around → Repetition → Notes
before_notes line around (repetition.Before condition) = expression_notes line around condition.test
before_notes line around _ = []

-- the condition of a `Do`, where it stands behind its block, in its own line
abbrev pub after_notes : Around → Repetition → Notes
after_notes around (repetition.After line condition) = expression_notes line around condition.test
after_notes around _ = []

-- ---- blocks

-- what a statement says, by what stands around it
abbrev pub Says : Type 0
Says = Around → Notes

-- what statements say, one behind the other
abbrev pub block_notes : Around → List Says → Notes
block_notes around = flat_map (λ (part : Says). part around)

-- the same, where there are any
abbrev pub optional_block : Around → Option (List Says) → Notes
optional_block around None = []
optional_block around (Some body) = block_notes around body

-- ---- statements

-- what a statement of a line says, with what its parts say in their place
abbrev pub kind_layer : StatementKind-F (ℕ → Says) Says Says Says → ℕ → Says
kind_layer (StatementKind-F.Const access constants) line around = flat_map (constant_notes line) constants
kind_layer (StatementKind-F.Dim variables) line around = flat_map (variable_notes line) variables
kind_layer (StatementKind-F.ReDim preserve arrays) line around = flat_map (resized_notes line around) arrays
kind_layer (StatementKind-F.Set target value) line around =
    path_notes line around target as_a.Target ++ expression_notes line around value
kind_layer (StatementKind-F.Assign target value) line around =
    path_notes line around target as_a.Target ++ expression_notes line around value
kind_layer (StatementKind-F.Call callee given) line around =
    path_notes line around callee (call_use given (map shape_of callee.steps))
    ++ arguments (length given) line ++ expressions_notes line around given
kind_layer (StatementKind-F.CallPath callee) line around = path_notes line around callee as_a.Callee
kind_layer (StatementKind-F.If condition body others otherwise) line around =
    expression_notes line around condition ++ block_notes around body
    ++ block_notes around others ++ optional_block around otherwise
kind_layer (StatementKind-F.LineIf condition body otherwise) line around =
    expression_notes line around condition ++ block_notes around body ++ optional_block around otherwise
kind_layer (StatementKind-F.Select subject cases otherwise) line around =
    expression_notes line around subject ++ block_notes around cases ++ optional_block around otherwise
kind_layer (StatementKind-F.For variable from to by body) line around =
    write_notes line variable ++ expression_notes line around from ++ expression_notes line around to
    ++ optional_notes line around by ++ block_notes (record around { in_for = true }) body
kind_layer (StatementKind-F.ForEach variable group body) line around =
    write_notes line variable ++ group_notes line around group
    ++ block_notes (record around { in_for = true }) body
kind_layer (StatementKind-F.Do repeated body) line around =
    before_notes line around repeated ++ block_notes (record around { in_do = true }) body
    ++ after_notes around repeated
kind_layer (StatementKind-F.While condition body) line around =
    expression_notes line around condition ++ block_notes around body
kind_layer (StatementKind-F.With subject body) line around =
    expression_notes line around subject ++ block_notes (record around { in_with = true }) body
kind_layer (StatementKind-F.Exit left) line around = unless (is_inside around left) fault.BadExit line
kind_layer StatementKind-F.OnErrorResumeNext line around = []
kind_layer StatementKind-F.OnErrorGoToZero line around = []
kind_layer (StatementKind-F.Erase names) line around = flat_map (write_notes line) names
kind_layer (StatementKind-F.PageText text) line around = []
kind_layer (StatementKind-F.PageWrite value) line around = expression_notes line around value

-- a statement
abbrev pub statement_layer : Statement-F (ℕ → Says) Says Says Says → Says
statement_layer found = found.kind found.line

-- an `ElseIf` part, whose condition has its own line
abbrev pub else_if_layer : ElseIf-F (ℕ → Says) Says Says Says → Says
else_if_layer found around =
    expression_notes found.line around found.condition ++ block_notes around found.then

-- a `Case` part, whose values have their own line
abbrev pub case_layer : Case-F (ℕ → Says) Says Says Says → Says
case_layer found around =
    expressions_notes found.line around found.values ++ block_notes around found.body

-- what a statement says
abbrev pub statement_notes : Statement → Says
statement_notes = fold-Statement (ℕ → Says) Says Says Says kind_layer case_layer else_if_layer statement_layer

-- what a statement of a line says
abbrev pub kind_notes : StatementKind → ℕ → Says
kind_notes = fold-StatementKind (ℕ → Says) Says Says Says kind_layer case_layer else_if_layer statement_layer

-- what an `ElseIf` part says
abbrev pub else_if_notes : ElseIf → Says
else_if_notes = fold-ElseIf (ℕ → Says) Says Says Says kind_layer case_layer else_if_layer statement_layer

-- what a `Case` part says
abbrev pub case_notes : Case → Says
case_notes = fold-Case (ℕ → Says) Says Says Says kind_layer case_layer else_if_layer statement_layer

-- what statements say
abbrev pub body_notes : Around → List Statement → Notes
body_notes around statements = block_notes around (map statement_notes statements)
