-- The nodes of a program, and the parts that places name.
use Rattle.std.specs.Prelude.{List, [], Option, Some, None, slice_get}
use Rattle.vb_value.specs.declared.operator.Op2.{Op2}
use Rattle.vb_syntax.specs.declared.program.Program.{Program}
use Rattle.vb_syntax.specs.declared.program.expression.Expression.{Expression, out-Expression}
use Rattle.vb_syntax.specs.declared.program.expression.Expression.TheOpen.{Expression-F, Step-F}
use Rattle.vb_syntax.specs.declared.program.expression.Operation.{Operation, out-Operation}
use Rattle.vb_syntax.specs.declared.program.expression.Path.{Path}
use Rattle.vb_syntax.specs.declared.program.expression.Step.{Step, out-Step}
use Rattle.vb_syntax.specs.declared.program.statement.Repetition.{Repetition}
use Rattle.vb_syntax.specs.declared.program.statement.Repetition.TheVariants as repetition
use Rattle.vb_syntax.specs.declared.program.statement.Statement.{Statement}
use Rattle.vb_syntax.specs.declared.program.statement.StatementKind.{out-StatementKind}
use Rattle.vb_syntax.specs.declared.program.statement.StatementKind.TheOpen.{StatementKind-F}
use Rattle.vb_syntax.specs.declared.program.unit.Procedure.{Procedure}
use Rattle.vb_meaning.specs.Expressions.{Said, bare}
use Rattle.vb_meaning.specs.Executing.{Said as Stated}
use Rattle.vb_frames.specs.declared.node.Node.{Node}
use Rattle.vb_frames.specs.declared.node.Node.TheVariants as node
use Rattle.vb_frames.specs.declared.place.Place.{Place}
use Rattle.vb_frames.specs.declared.place.Place.TheVariants as place

pub data At : Type 0 where
  Root : At
  OfProcedure : Procedure → At
  OfBlock : List Statement → At
  OfStatement : Statement → At
  OfExpression : Expression → At
  OfItems : List Expression → At
  Nowhere : At

-- the node that a reference refers to
abbrev pub seen : Node → At
seen node.Root = Root
seen (node.Procedure procedure) = OfProcedure procedure.now
seen (node.Block block) = OfBlock block.now
seen (node.Statement statement) = OfStatement statement.now
seen (node.Expression expression) = OfExpression expression.now
seen (node.Items items) = OfItems items.now
seen node.Nowhere = Nowhere

-- ---- what there may be

abbrev pub a_procedure : Option Procedure → At
a_procedure None = Nowhere
a_procedure (Some procedure) = OfProcedure procedure

abbrev pub a_statement : Option Statement → At
a_statement None = Nowhere
a_statement (Some statement) = OfStatement statement

abbrev pub an_expression : Option Expression → At
an_expression None = Nowhere
an_expression (Some expression) = OfExpression expression

abbrev pub an_operand : Option Operation → At
an_operand None = Nowhere
an_operand (Some operation) = OfExpression (out-Operation operation).operand

abbrev pub group_in : Step-F Expression Step Operation Path → At
group_in (Step-F.Group arguments) = OfItems arguments
group_in (Step-F.Member name) = Nowhere

abbrev pub a_group : Option Step → At
a_group None = Nowhere
a_group (Some step) = group_in (out-Step step)

-- ---- parts of statements

-- the condition of a Do
abbrev pub test_in : Repetition → At
test_in repetition.Endless = Nowhere
test_in (repetition.Before asked) = OfExpression asked.test
test_in (repetition.After line asked) = OfExpression asked.test

-- the value or the condition of a statement
abbrev pub value_in : Stated → At
value_in (StatementKind-F.Set target value) = OfExpression value
value_in (StatementKind-F.Assign target value) = OfExpression value
value_in (StatementKind-F.Do repeated body) = test_in repeated
value_in (StatementKind-F.While test body) = OfExpression test
value_in _ = Nowhere

-- the statements of a loop
abbrev pub body_in : Stated → At
body_in (StatementKind-F.Do repeated body) = OfBlock body
body_in (StatementKind-F.While test body) = OfBlock body
body_in _ = Nowhere

-- ---- parts of expressions without parentheses of their own

abbrev pub operand_in : Said → At
operand_in (Expression-F.Parenthesis inside) = OfExpression inside
operand_in (Expression-F.Negative operand) = OfExpression operand
operand_in (Expression-F.Not operand) = OfExpression operand
operand_in (Expression-F.Chain first rest) = OfExpression first
operand_in _ = Nowhere

abbrev pub operations_in : Said → List Operation
operations_in (Expression-F.Chain first rest) = rest
operations_in _ = []

-- the operator of an operation
abbrev pub operator : Operation → Op2
operator operation = (out-Operation operation).operator

abbrev pub steps_in : Said → List Step
steps_in (Expression-F.Path path) = path.steps
steps_in _ = []

-- ---- parts of nodes

abbrev pub value_of : At → At
value_of (OfStatement statement) = value_in (out-StatementKind statement.kind)
value_of _ = Nowhere

abbrev pub operand_of : At → At
operand_of (OfExpression expression) = operand_in (out-Expression (bare expression))
operand_of _ = Nowhere

abbrev pub operations_of : At → List Operation
operations_of (OfExpression expression) = operations_in (out-Expression (bare expression))
operations_of _ = []

abbrev pub steps_of : At → List Step
steps_of (OfExpression expression) = steps_in (out-Expression (bare expression))
steps_of _ = []

abbrev pub block_of : At → List Statement
block_of (OfBlock block) = block
block_of _ = []

abbrev pub items_of : At → List Expression
items_of (OfItems items) = items
items_of _ = []

-- the body of the page, or of a node
abbrev pub body_at : Program → At → At
body_at p Root = OfBlock p.unit.body
body_at p (OfProcedure procedure) = OfBlock procedure.body
body_at p (OfStatement statement) = body_in (out-StatementKind statement.kind)
body_at p _ = Nowhere

-- the part of a node that a place names
abbrev pub part : Program → Place → At → At
part p place.Here here = here
part p place.Body here = body_at p here
part p (place.Procedure number) here = a_procedure (slice_get p.unit.procedures number)
part p (place.Statement number) here = a_statement (slice_get (block_of here) number)
part p place.Value here = value_of here
part p place.Operand here = operand_of here
part p (place.Right number) here = an_operand (slice_get (operations_of here) number)
part p (place.Group number) here = a_group (slice_get (steps_of here) number)
part p (place.Item number) here = an_expression (slice_get (items_of here) number)
