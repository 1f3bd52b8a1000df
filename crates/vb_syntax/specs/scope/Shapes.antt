-- What the steps of a path look like, and what a call statement puts behind them.
use Rattle.std.specs.Prelude.{Bool, true, false, if◌then◌else◌, List, [], ◌∷◌, ◌++◌, fold}
use Rattle.vb_syntax.specs.declared.expression.Expression.{Expression}
use Rattle.vb_syntax.specs.declared.expression.Expression.TheOpen.{Step-F}
use Rattle.vb_syntax.specs.declared.expression.Operation.{Operation}
use Rattle.vb_syntax.specs.declared.expression.Path.{Path}
use Rattle.vb_syntax.specs.declared.expression.Step.{Step, out-Step}
use Rattle.vb_syntax.specs.declared.note.PathUse.{PathUse}
use Rattle.vb_syntax.specs.declared.note.PathUse.TheVariants as as_a
use Rattle.vb_syntax.specs.declared.note.Shape.{Shape}
use Rattle.vb_syntax.specs.declared.note.Shape.TheVariants as shape

-- one step, whatever stands in its parentheses
abbrev pub layer_shape : Step-F Expression Step Operation Path → Shape
layer_shape (Step-F.Member name) = shape.Member name
layer_shape (Step-F.Group given) = shape.Group

-- what a step looks like
abbrev pub shape_of : Step → Shape
shape_of step = layer_shape (out-Step step)

-- whether a step is a parenthesis
abbrev pub is_parenthesis : Shape → Bool
is_parenthesis shape.Group = true
is_parenthesis (shape.Member name) = false

-- whether nothing stands behind a name
abbrev pub stands_alone : List Shape → Bool
stands_alone [] = true
stands_alone (first ∷ more) = false

-- whether the last step is a parenthesis
abbrev pub ends_in_group : List Shape → Bool
ends_in_group = fold (λ (before : Bool) (step : Shape). is_parenthesis step) false

-- How a call statement uses its callee. The arguments are a last parenthesis of the path, wherever there are any; without
-- any the callee `s()` of `s()()` has an empty one behind it.
abbrev pub call_use : List Expression → List Shape → PathUse
call_use [] steps = if ends_in_group steps then as_a.CalleeWithArguments else as_a.Callee
call_use (given ∷ more) steps = as_a.CalleeWithArguments

-- whether arguments stand behind a path that is used so
abbrev pub has_arguments : PathUse → Bool
has_arguments as_a.CalleeWithArguments = true
has_arguments _ = false

-- the steps of a path that is used so, with the parenthesis that a call statement puts behind them
abbrev pub used_steps : PathUse → List Shape → List Shape
used_steps used steps = if has_arguments used then steps ++ shape.Group ∷ [] else steps
