-- Expressions, and objects that are made, in two environments side by side.
use Rattle.std.proofs.Common.{ℕ, Bool, true, false, List, [], ◌∷◌, Option, Some, None, slice_get}
use Rattle.std.specs.Option.{option_and_then}
use Rattle.vb_value.specs.declared.operator.Op1.TheVariants.{Minus, Not}
use Rattle.vb_value.specs.declared.value.ObjNo.{ObjNo}
use Rattle.vb_value.specs.declared.value.Value.{Value, Obj, Nothing}
use Rattle.vb_value.specs.Errors.{undefined_class}
use Rattle.vb_syntax.specs.declared.program.Program.{Program}
use Rattle.vb_syntax.specs.declared.program.expression.Expression.{Expression, out-Expression}
use Rattle.vb_syntax.specs.declared.program.expression.Expression.TheOpen.{Expression-F}
use Rattle.vb_syntax.specs.declared.program.expression.Operation.{Operation, out-Operation}
use Rattle.vb_syntax.specs.declared.program.unit.Class.{Class}
use Rattle.vb_syntax.specs.declared.program.unit.Procedure.{Procedure}
use Rattle.vb_ops.specs.Operators.{apply1_of, apply2_of}
use Rattle.vb_meaning.specs.declared.reached.Argument.TheVariants.{Place as OfPlace, Value as OfValue}
use Rattle.vb_meaning.specs.declared.reached.Reached.{Reached}
use Rattle.vb_meaning.specs.declared.reached.Reached.TheVariants.{Place as AtPlace, Value as AtValue}
use Rattle.vb_meaning.specs.Accesses.{accesses}
use Rattle.vb_meaning.specs.Expressions as expressions
use Rattle.vb_meaning.specs.Making as making
use Rattle.vb_meaning.specs.Objects.{class_at}
use Rattle.vb_meaning.specs.State.{Does}
use Rattle.vb_meaning.specs.Values.{literal_value}
use Rattle.act_laws.proofs.Inside.{Inners, Same}
use Rattle.act_laws.proofs.Joined.{Link}
use Rattle.act_laws.proofs.Linked.{Fits, then_fits, letting_fits, value_fits, fails_fit, given_fits, world_fits}
use Rattle.act_laws.proofs.Linked.{choice_fits}
use Rattle.act_laws.proofs.Reading.{path_value_fits, reached_fits}
use Rattle.act_laws.proofs.Wantless.{then_wantless}
use Rattle.act_laws.proofs.WantlessPlaces.{holding_wantless, reached_wantless}
use Rattle.act_laws.proofs.WantlessScopes.{object_made_wantless, written_wantless}

-- a value that is written down, or what is done for another
pub written_or_fits : {l : Link} (program : Program) (said : expressions.Said) {first : Does l.E Value}
    {second : Does l.F Value} → Fits l first second
    → Fits l (expressions.written_or program said first) (expressions.written_or program said second)
written_or_fits {l} program said fit =
    choice_fits (expressions.is_written said) (world_fits l (written_wantless program said)) fit

module _ (l : Link) (i : Inners l) where
  -- ---- New

  initialized_fits : (object : ObjNo) (number : ℕ) (found : Option Procedure)
      → Same l i (λ E m. making.initialized E m object number found)
  initialized_fits object number (Some procedure) =
      then_fits (i.enter_fits (Some (object, number)) procedure []) (λ value. value_fits l (Obj object))
  initialized_fits object number None = value_fits l (Obj object)

  made_of_fits : (number : Option ℕ) (class : Option Class) → Same l i (λ E m. making.made_of E m number class)
  made_of_fits (Some number) (Some class) =
      letting_fits (then_fits (world_fits l (object_made_wantless number class.fields))
      (λ object. initialized_fits object number (option_and_then (slice_get class.procedures) class.initialize)))
  made_of_fits _ _ = fails_fit l undefined_class

  new_fits : (number : Option ℕ) → Same l i (λ E m. making.new_of E m number)
  unfolding making.new_of
  new_fits number = made_of_fits number (class_at i.program number)

  -- ---- operators

  operations_fit : (left : Value) (more : List Operation) → Same l i (λ E m. expressions.operations E m left more)
  operations_fit left [] = value_fits l left
  operations_fit left (first ∷ others) = then_fits (i.value_fits (out-Operation first).operand) (λ right.
      then_fits (given_fits l (apply2_of (out-Operation first).operator left right))
      (λ value. operations_fit value others))

  yields_fit : (said : expressions.Said) → Same l i (λ E m. expressions.yields E m said)
  yields_fit (Expression-F.Literal literal) = value_fits l (literal_value literal)
  yields_fit Expression-F.Nothing = value_fits l Nothing
  yields_fit (Expression-F.New class) = new_fits class
  yields_fit (Expression-F.Path path) = path_value_fits l i path
  yields_fit (Expression-F.Parenthesis inside) = i.value_fits inside
  yields_fit (Expression-F.Negative operand) =
      then_fits (i.value_fits operand) (λ value. given_fits l (apply1_of Minus value))
  yields_fit (Expression-F.Not operand) =
      then_fits (i.value_fits operand) (λ value. given_fits l (apply1_of Not value))
  yields_fit (Expression-F.Chain first rest) =
      then_fits (i.value_fits first) (λ left. operations_fit left rest)

  value_of_fits : (expression : Expression) → Same l i (λ E m. expressions.value_of E m expression)
  unfolding expressions.value_of
  value_of_fits expression =
      then_fits (yields_fit (out-Expression expression)) (λ value. world_fits l (holding_wantless value))

  pub valued_fits : (expression : Expression) → Same l i (λ E m. expressions.valued E m expression)
  valued_fits expression = written_or_fits i.program (out-Expression (expressions.bare expression))
      (value_of_fits (expressions.bare expression))

  -- ---- arguments

  held_argument_fits : (found : Reached) → Same l i (λ E m. expressions.path_argument E m false found)
  held_argument_fits found = then_fits (world_fits l (then_wantless (reached_wantless found) holding_wantless))
      (λ value. value_fits l (OfValue value))

  path_argument_fits : (may_be_place : Bool) (found : Reached)
      → Same l i (λ E m. expressions.path_argument E m may_be_place found)
  path_argument_fits true (AtPlace place) = value_fits l (OfPlace place)
  path_argument_fits true (AtValue value) = held_argument_fits (AtValue value)
  path_argument_fits false found = held_argument_fits found

  as_argument_fits : (expression : Expression) (said : expressions.Said)
      → Same l i (λ E m. expressions.as_argument E m expression said)
  as_argument_fits expression (Expression-F.Path path) = then_fits (reached_fits l i path)
      (path_argument_fits (expressions.may_be_place path.head (accesses path.steps)))
  as_argument_fits expression _ = then_fits (valued_fits expression) (λ value. value_fits l (OfValue value))

  pub argument_of_fits : (expression : Expression) → Same l i (λ E m. expressions.argument_of E m expression)
  unfolding expressions.argument_of
  argument_of_fits expression = as_argument_fits expression (out-Expression expression)
