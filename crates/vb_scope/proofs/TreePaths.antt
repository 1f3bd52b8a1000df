-- Paths in a program, from the fold that defines them.
use Rattle.std.proofs.Common.{◌≡◌, List, [], ◌∷◌, map, refl, ap, ◌∙◌}
use Rattle.vb_syntax.specs.declared.expression.Expression.{Expression}
use Rattle.vb_syntax.specs.declared.expression.Expression.TheFolds.{fold_out-Path, fold_out-Step}
use Rattle.vb_syntax.specs.declared.expression.Expression.TheOpen.{Step-F}
use Rattle.vb_syntax.specs.declared.expression.Operation.{Operation}
use Rattle.vb_syntax.specs.declared.expression.Path.{Path}
use Rattle.vb_syntax.specs.declared.expression.Step.{Step, out-Step, map-Step}
use Rattle.vb_syntax.specs.declared.note.PathUse.{PathUse}
use Rattle.vb_syntax.specs.declared.program.expression.Expression.{Expression as Resolved}
use Rattle.vb_syntax.specs.declared.program.expression.Operation.{Operation as ResolvedOperation}
use Rattle.vb_syntax.specs.declared.program.expression.Path.{Path as ResolvedPath}
use Rattle.vb_syntax.specs.scope.Names.{Name}
use Rattle.vb_syntax.specs.scope.Trees.{StepPair, shapes, resolved_path, head_of}
use Rattle.vb_syntax.specs.scope.Trees.{expression_layer, step_layer, operation_layer, path_layer}
use Rattle.vb_syntax.specs.scope.Trees.{expression_of, step_of, operation_of, path_of}
use Rattle.vb_syntax.specs.scope.Scopes.{Scopes}
use Rattle.vb_syntax.specs.scope.Shapes.{shape_of, layer_shape, used_steps}

module _ (names : List Name) (scopes : Scopes) where
  shape-step : (step : Step) → (step_of names scopes step).0 ≡ shape_of step
  shape-step step = ap (λ (pair : StepPair). pair.0)
      (fold_out-Step Resolved StepPair ResolvedOperation (PathUse → ResolvedPath)
      (expression_layer names scopes) (step_layer names scopes) (operation_layer names scopes) (path_layer names scopes)
      step) ∙ of (expression_of names scopes) (step_of names scopes) (operation_of names scopes) (path_of names scopes)
      (out-Step step)
    where
      of : (f : Expression → Resolved) (g : Step → StepPair) (h : Operation → ResolvedOperation)
          (i : Path → PathUse → ResolvedPath) (layer : Step-F Expression Step Operation Path)
          → (step_layer names scopes (map-Step Expression Step Operation Path Resolved StepPair ResolvedOperation
          (PathUse → ResolvedPath) f g h i layer)).0 ≡ layer_shape layer
      of f g h i (Step-F.Member name) = refl
      of f g h i (Step-F.Group given) = refl

  -- what the steps look like
  shapes-steps : (steps : List Step) → shapes (map (step_of names scopes) steps) ≡ map shape_of steps
  shapes-steps [] = refl
  shapes-steps (step ∷ steps) = ap (λ s. s ∷ shapes (map (step_of names scopes) steps)) (shape-step step)
      ∙ ap (λ l. shape_of step ∷ l) (shapes-steps steps)

  pub path-is : (path : Path) (used : PathUse) → path_of names scopes path used
      ≡ resolved_path (head_of names scopes used path.head (used_steps used (map shape_of path.steps)))
      (map (step_of names scopes) path.steps)
  path-is path used = ap (λ (of : PathUse → ResolvedPath). of used)
      (fold_out-Path Resolved StepPair ResolvedOperation (PathUse → ResolvedPath)
      (expression_layer names scopes) (step_layer names scopes) (operation_layer names scopes) (path_layer names scopes)
      path)
      ∙ ap (λ l. resolved_path (head_of names scopes used path.head (used_steps used l)) (map (step_of names scopes) path.steps))
      (shapes-steps path.steps)
