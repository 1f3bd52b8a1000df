-- Threads may share programs: part by part, since no search finds it of a whole program.
use denote.Builtin.{u32}
use denote.Param.Send.{IsSync, sendable}
use denote.Param.SendFields.{as_row_sync, declared_sync}
use denote.RattleType.{RattleType}
use denote.Struct.Field.{u32-field}
use Rattle.std.proofs.Crossing.{crosses}
use Rattle.std.specs.contracts.option.Option as Option
use Rattle.vb_syntax.proofs.expression.Literal.TheSendSync as literals
use Rattle.vb_syntax.proofs.program.expression.Expression.TheLaws.TheKnot as expressions
use Rattle.vb_syntax.proofs.program.expression.Head.TheSendSync as heads
use Rattle.vb_syntax.proofs.program.statement.StatementKind.TheLaws.TheKnot as statements
use Rattle.vb_syntax.proofs.statement.ExitKind.TheSendSync as exits
use Rattle.vb_syntax.specs.contracts.program.Program as Program
use Rattle.vb_syntax.specs.contracts.program.expression.Expression as Expression
use Rattle.vb_syntax.specs.contracts.program.expression.Path as Path
use Rattle.vb_syntax.specs.contracts.program.statement.Condition as Condition
use Rattle.vb_syntax.specs.contracts.program.statement.Repetition as Repetition
use Rattle.vb_syntax.specs.contracts.program.statement.Statement as Statement
use Rattle.vb_syntax.specs.contracts.program.unit.Class as Class
use Rattle.vb_syntax.specs.contracts.program.unit.Procedure as Procedure
use Rattle.vb_syntax.specs.contracts.program.unit.Unit as Unit
use Rattle.vb_value.proofs.operator.Op2.TheSendSync as operators
use Rattle.vb_value.specs.contracts.boxed.Boxed as Boxed
use Rattle.vb_value.specs.contracts.list.List as List

pub list : (A : RattleType) → IsSync A → IsSync (List.the_row A)
list A sync = search (sendable, crosses) depth 40 fits 20000

pub some_list : (A : RattleType) → IsSync A → IsSync (Option.the_row (List.the_row A))
some_list A sync = search (list, sendable, crosses) depth 40 fits 20000

pub boxed : (A : RattleType) → IsSync A → IsSync (Boxed.the_row A)
boxed A sync = search (sendable, crosses) depth 40 fits 20000

some_number : IsSync (Option.the_field u32).row
some_number = search (sendable, crosses) depth 40 fits 20000

number : IsSync (u32-field).row
number = search (sendable, crosses) depth 40 fits 20000

expression_in : IsSync (Expression.the_field).row
expression_in = expressions.sync-Expression literals.the_field_sync some_number boxed list number
    operators.the_field_sync heads.the_field_sync

path_in : IsSync (Path.the_field).row
path_in = expressions.sync-Path literals.the_field_sync some_number boxed list number
    operators.the_field_sync heads.the_field_sync

expression : IsSync Expression.the_row
expression = as_row_sync Expression.the_field expression_in

condition : IsSync (Condition.the_field).row
condition = search (expression_in, sendable, crosses) depth 60 fits 20000

repetition : IsSync (Repetition.the_field).row
repetition = search (condition, sendable, crosses) depth 60 fits 20000

statement_in : IsSync (Statement.the_field).row
statement_in = statements.sync-Statement (search (sendable, crosses) depth 40 fits 20000)
    (search (expression, list, sendable, crosses) depth 40 fits 20000) path_in expression_in list some_list
    (search (sendable, crosses) depth 40 fits 20000) (search (expression, sendable, crosses) depth 40 fits 20000)
    repetition exits.the_field_sync
    (search (list, sendable, crosses) depth 100 fits 100000) (search (sendable, crosses) depth 40 fits 20000) number
    (search (expression, list, sendable, crosses) depth 40 fits 20000)

statement : IsSync Statement.the_row
statement = as_row_sync Statement.the_field statement_in

procedure : IsSync Procedure.the_row
procedure = search (statement, sendable, crosses) depth 60 fits 20000

class : IsSync Class.the_row
class = search (procedure, sendable, crosses) depth 60 fits 20000

unit : IsSync Unit.the_row
unit = search (statement, procedure, class, sendable, crosses) depth 100 fits 100000

pub program : IsSync Program.the_row
program = declared_sync Program.the_type (search (unit, sendable, crosses) depth 100 fits 100000)
