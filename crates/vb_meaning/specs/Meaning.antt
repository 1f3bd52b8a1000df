-- The meaning of a program's expressions and statements: the rules, each on what is inside it, as deep as may be. Of the
-- statements, operators, paths and calls that are begun and not yet ended at most 2,000 may be open; the next is the
-- error Out of stack space.
use Rattle.std.specs.Prelude.{ℕ, zero, suc, List}
use Rattle.vb_value.specs.declared.value.Value.{Value}
use Rattle.vb_syntax.specs.declared.program.Program.{Program}
use Rattle.vb_syntax.specs.declared.program.expression.Expression.{Expression, out-Expression}
use Rattle.vb_syntax.specs.declared.program.expression.Path.{Path}
use Rattle.vb_syntax.specs.declared.program.statement.Statement.{Statement}
use Rattle.vb_syntax.specs.declared.program.statement.StatementKind.{out-StatementKind}
use Rattle.vb_syntax.specs.declared.program.unit.Procedure.{Procedure}
use Rattle.vb_meaning.specs.declared.world.Exit.{Exit}
use Rattle.vb_meaning.specs.Asking.{Host}
use Rattle.vb_meaning.specs.Assigning.{assign_to}
use Rattle.vb_meaning.specs.Calling.{enter_of}
use Rattle.vb_meaning.specs.Errors.{too_deep}
use Rattle.vb_meaning.specs.Executing.{statement_of, refused}
use Rattle.vb_meaning.specs.Expressions.{valued, argument_of, bare, written_or}
use Rattle.vb_meaning.specs.Inner.{Inner, Owner}
use Rattle.vb_meaning.specs.declared.reached.Argument.{Argument}
use Rattle.vb_meaning.specs.declared.reached.Argument.TheVariants.{Value as OfValue}
use Rattle.vb_meaning.specs.declared.reached.Assigned.{Assigned}
use Rattle.vb_meaning.specs.State.{Does, on_world}
use Rattle.vb_meaning.specs.Statements.{call_of}
use Rattle.vb_meaning.specs.Step.{◌>>=◌, pure}

-- how many constructs may be open
abbrev pub most_levels : ℕ
most_levels = 2000

unfoldable mutual
  -- an expression
  pub value : (E : Type 0) → Host E → Program → ℕ → Expression → Does E Value
  value E host program zero expression = written_or program (out-Expression (bare expression)) (on_world too_deep)
  value E host program (suc levels) expression = valued E (record {
    host = host;
    program = program;
    value = value E host program levels;
    argument = argument E host program levels;
    assign = assign E host program levels;
    call = call E host program levels;
    statement = statement E host program levels;
    enter = enter E host program levels;
  }) expression

  -- an expression as an argument
  pub argument : (E : Type 0) → Host E → Program → ℕ → Expression → Does E Argument
  argument E host program zero expression =
      written_or program (out-Expression (bare expression)) (on_world too_deep) >>= (λ found. pure (OfValue found))
  argument E host program (suc levels) expression = argument_of E (record {
    host = host;
    program = program;
    value = value E host program levels;
    argument = argument E host program levels;
    assign = assign E host program levels;
    call = call E host program levels;
    statement = statement E host program levels;
    enter = enter E host program levels;
  }) expression

  -- a path to which a value is assigned
  pub assign : (E : Type 0) → Host E → Program → ℕ → Assigned → Path → Value → Does E (Unit {0})
  assign E host program zero how path found = on_world too_deep
  assign E host program (suc levels) how path found = assign_to E (record {
    host = host;
    program = program;
    value = value E host program levels;
    argument = argument E host program levels;
    assign = assign E host program levels;
    call = call E host program levels;
    statement = statement E host program levels;
    enter = enter E host program levels;
  }) how path found

  -- a path that a statement calls
  pub call : (E : Type 0) → Host E → Program → ℕ → Path → Does E (Unit {0})
  call E host program zero path = on_world too_deep
  call E host program (suc levels) path = call_of E (record {
    host = host;
    program = program;
    value = value E host program levels;
    argument = argument E host program levels;
    assign = assign E host program levels;
    call = call E host program levels;
    statement = statement E host program levels;
    enter = enter E host program levels;
  }) path

  -- a statement
  pub statement : (E : Type 0) → Host E → Program → ℕ → Statement → Does E Exit
  statement E host program zero found = refused found.line (out-StatementKind found.kind)
  statement E host program (suc levels) found = statement_of E (record {
    host = host;
    program = program;
    value = value E host program levels;
    argument = argument E host program levels;
    assign = assign E host program levels;
    call = call E host program levels;
    statement = statement E host program levels;
    enter = enter E host program levels;
  }) found

  -- a procedure that is called
  pub enter : (E : Type 0) → Host E → Program → ℕ → Owner → Procedure → List Argument → Does E Value
  enter E host program zero owner procedure arguments = on_world too_deep
  enter E host program (suc levels) owner procedure arguments =
      enter_of E (record {
        host = host;
        program = program;
        value = value E host program levels;
        argument = argument E host program levels;
        assign = assign E host program levels;
        call = call E host program levels;
        statement = statement E host program levels;
        enter = enter E host program levels;
      }) owner procedure arguments

-- the constructs inside one, where so many more may be begun
abbrev pub inside : (E : Type 0) → Host E → Program → ℕ → Inner E
inside E host program levels = record {
  host = host;
  program = program;
  value = value E host program levels;
  argument = argument E host program levels;
  assign = assign E host program levels;
  call = call E host program levels;
  statement = statement E host program levels;
  enter = enter E host program levels;
}
