-- Expressions (VBScript 5.6 language reference, "Operators").
use Rattle.std.specs.Prelude.{ℕ, zero, suc, Bool, true, false, if◌then◌else◌, List, [], ◌∷◌}
use Rattle.std.specs.Prelude.{slice_get}
use Rattle.vb_value.specs.declared.operator.Op1.TheVariants.{Minus, Not}
use Rattle.vb_value.specs.declared.value.Value.{Value, Nothing}
use Rattle.vb_value.specs.Errors.{undefined_variable}
use Rattle.vb_syntax.specs.declared.program.Program.{Program}
use Rattle.vb_syntax.specs.declared.program.expression.Expression.{Expression, out-Expression}
use Rattle.vb_syntax.specs.declared.program.expression.Expression.TheOpen.{Expression-F}
use Rattle.vb_syntax.specs.declared.program.expression.Head.{Head}
use Rattle.vb_syntax.specs.declared.program.expression.Head.TheVariants as head
use Rattle.vb_syntax.specs.declared.program.expression.Operation.{Operation, out-Operation}
use Rattle.vb_syntax.specs.declared.program.expression.Path.{Path}
use Rattle.vb_syntax.specs.declared.program.expression.Step.{Step as PathStep}
use Rattle.vb_syntax.specs.declared.program.name.Named.TheVariants as named
use Rattle.vb_ops.specs.Operators.{apply1_of, apply2_of}
use Rattle.vb_meaning.specs.World.{World}
use Rattle.vb_meaning.specs.Accesses.{Access, accesses, only_groups}
use Rattle.vb_meaning.specs.Inner.{Inner}
use Rattle.vb_meaning.specs.declared.reached.Argument.{Argument}
use Rattle.vb_meaning.specs.declared.reached.Argument.TheVariants.{Place as OfPlace, Value as OfValue}
use Rattle.vb_meaning.specs.Making.{new_of}
use Rattle.vb_meaning.specs.Paths.{reached_value}
use Rattle.vb_meaning.specs.declared.reached.Reached.{Reached}
use Rattle.vb_meaning.specs.declared.reached.Reached.TheVariants.{Place as AtPlace}
use Rattle.vb_meaning.specs.Places.{holding}
use Rattle.vb_meaning.specs.Reading.{path_value, reached, constant_of, value_of_constant}
use Rattle.vb_meaning.specs.State.{Does, on_world}
use Rattle.vb_meaning.specs.Step.{Run, ◌>>=◌, pure, given, fails}
use Rattle.vb_meaning.specs.Values.{literal_value}

-- what an expression says, with its parts
abbrev pub Said : Type 0
Said = Expression-F Expression PathStep Operation Path

-- ---- what takes no level

-- what is made of the expression inside, if there are parentheses of its own around an expression
abbrev pub inside_or : (Expression → Expression) → Expression → Said → Expression
inside_or more expression (Expression-F.Parenthesis inside) = more inside
inside_or more expression _ = expression

-- an expression without the parentheses of its own around it, at most so many of them
abbrev pub without_parentheses : ℕ → Expression → Expression
without_parentheses zero expression = expression
without_parentheses (suc more) expression =
    inside_or (without_parentheses more) expression (out-Expression expression)

-- whether a name is a constant
abbrev pub is_constant_name : Head → Bool
is_constant_name (head.Named (named.Value literal)) = true
is_constant_name (head.Named (named.PageConstant number)) = true
is_constant_name (head.Named (named.LocalConstant number)) = true
is_constant_name _ = false

-- whether a path is the name of a constant alone
abbrev pub is_constant_path : Head → List PathStep → Bool
is_constant_path found [] = is_constant_name found
is_constant_path found _ = false

-- whether an expression is begun at no level: a value that is written down, or a constant
abbrev pub is_written : Said → Bool
is_written (Expression-F.Literal literal) = true
is_written Expression-F.Nothing = true
is_written (Expression-F.Path path) = is_constant_path path.head path.steps
is_written _ = false

-- the value of the name of a constant
abbrev pub constant_at : Program → Head → Run World Value
constant_at program (head.Named (named.Value literal)) world = pure (literal_value literal) world
constant_at program (head.Named (named.PageConstant number)) world =
    given (constant_of (slice_get program.unit.constants number)) world
constant_at program (head.Named (named.LocalConstant number)) world =
    given (value_of_constant (slice_get world.frame.constants number)) world
constant_at program _ world = fails undefined_variable world

-- the value of an expression that is written down
abbrev pub written_value : Program → Said → Run World Value
written_value program (Expression-F.Literal literal) = pure (literal_value literal)
written_value program Expression-F.Nothing = pure Nothing
written_value program (Expression-F.Path path) = constant_at program path.head
written_value program _ = fails undefined_variable

-- the value of an expression that is written down, and of any other what is done for it
abbrev pub written_or : {E : Type 0} → Program → Said → Does E Value → Does E Value
written_or program said other = if is_written said then on_world (written_value program said) else other

-- how many parentheses of its own may stand around an expression, which no script exceeds
abbrev pub most_parentheses : ℕ
most_parentheses = 200

-- an expression without the parentheses of its own around it
abbrev pub bare : Expression → Expression
bare expression = without_parentheses most_parentheses expression

-- whether a path may be a place: a name with no member behind it
abbrev pub may_be_place : Head → List Access → Bool
may_be_place (head.Named name) more = only_groups more
may_be_place _ more = false

module _ (E : Type 0) (m : Inner E) where
  -- operators of one level, from left to right, behind the value so far
  abbrev pub operations : Value → List Operation → Does E Value
  operations left [] = pure left
  operations left (first ∷ others) = m.value (out-Operation first).operand >>= (λ right.
      given (apply2_of (out-Operation first).operator left right) >>= (λ value. operations value others))

  -- what an expression yields, by what it is
  abbrev pub yields : Said → Does E Value
  yields (Expression-F.Literal literal) s = pure (literal_value literal) s
  yields Expression-F.Nothing s = pure Nothing s
  yields (Expression-F.New class) s = new_of E m class s
  yields (Expression-F.Path path) s = path_value E m path s
  yields (Expression-F.Parenthesis inside) s = m.value inside s
  yields (Expression-F.Negative operand) s = (m.value operand >>= (λ value. given (apply1_of Minus value))) s
  yields (Expression-F.Not operand) s = (m.value operand >>= (λ value. given (apply1_of Not value))) s
  yields (Expression-F.Chain first rest) s = (m.value first >>= (λ left. operations left rest)) s

  -- the value of an expression, which is held to the end of the statement
  unfoldable pub value_of : Expression → Does E Value
  value_of expression = yields (out-Expression expression) >>= (λ value. on_world (holding value))

  -- the value of an expression; what is written down, and parentheses, are no constructs
  abbrev pub valued : Expression → Does E Value
  valued expression = written_or m.program (out-Expression (bare expression)) (value_of (bare expression))

  -- ---- arguments

  -- what a path gives as an argument: a place, unless an object's member was asked on the way
  abbrev pub path_argument : Bool → Reached → Does E Argument
  path_argument true (AtPlace place) = pure (OfPlace place)
  path_argument _ found = on_world (reached_value found >>= holding) >>= (λ value. pure (OfValue value))

  -- an expression as an argument: a path may be a place, anything else is a value
  abbrev pub as_argument : Expression → Said → Does E Argument
  as_argument expression (Expression-F.Path path) =
      reached E m path >>= path_argument (may_be_place path.head (accesses path.steps))
  as_argument expression _ = valued expression >>= (λ value. pure (OfValue value))

  unfoldable pub argument_of : Expression → Does E Argument
  argument_of expression = as_argument expression (out-Expression expression)
