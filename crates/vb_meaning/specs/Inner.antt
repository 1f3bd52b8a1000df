-- What the rules of one construct stand on: the program, the environment, and what the constructs inside it do. Each of
-- these is one level deeper, since of all that is begun and not yet ended so many levels may be open.
use Rattle.std.specs.Prelude.{ℕ, List, Option}
use Rattle.vb_value.specs.declared.value.ObjNo.{ObjNo}
use Rattle.vb_value.specs.declared.value.Value.{Value}
use Rattle.vb_syntax.specs.declared.program.Program.{Program}
use Rattle.vb_syntax.specs.declared.program.expression.Expression.{Expression}
use Rattle.vb_syntax.specs.declared.program.expression.Path.{Path}
use Rattle.vb_syntax.specs.declared.program.statement.Statement.{Statement}
use Rattle.vb_syntax.specs.declared.program.unit.Procedure.{Procedure}
use Rattle.vb_meaning.specs.declared.reached.Argument.{Argument}
use Rattle.vb_meaning.specs.declared.reached.Assigned.{Assigned}
use Rattle.vb_meaning.specs.declared.world.Exit.{Exit}
use Rattle.vb_meaning.specs.Asking.{Host}
use Rattle.vb_meaning.specs.State.{Does}

-- the object whose method a procedure is, and the number of its class; none for a procedure of the page
abbrev pub Owner : Type 0
Owner = Option (ObjNo × ℕ)

pub record Inner (E : Type 0) : Type 0 where
  pub host : Host E
  pub program : Program
  -- the value of an expression
  pub value : Expression → Does E Value
  -- an expression as an argument
  pub argument : Expression → Does E Argument
  -- a path to which a value is assigned
  pub assign : Assigned → Path → Value → Does E (Unit {0})
  -- a path that is called by a statement
  pub call : Path → Does E (Unit {0})
  -- a statement
  pub statement : Statement → Does E Exit
  -- a procedure with its arguments: what it gives
  pub enter : Owner → Procedure → List Argument → Does E Value
