-- What each form of an expression says, from the fold that defines it.
use Rattle.std.proofs.Common.{◌≡◌, ℕ, List, [], ◌∷◌, ◌++◌, map, refl, sym, ap, ◌∙◌}
use Rattle.std.specs.List.{flat_map}
use Rattle.vb_syntax.specs.declared.expression.Expression.{Expression}
use Rattle.vb_syntax.specs.declared.expression.Expression.TheFolds.{fold-roll-Expression, fold_out-Path, fold_out-Step}
use Rattle.vb_syntax.specs.declared.expression.Expression.TheOpen.{Expression-F, Step-F}
use Rattle.vb_syntax.specs.declared.expression.Expression.TheVariants as e
use Rattle.vb_syntax.specs.declared.expression.Operation.{Operation}
use Rattle.vb_syntax.specs.declared.expression.Path.{Path}
use Rattle.vb_syntax.specs.declared.expression.Step.{Step, out-Step, map-Step}
use Rattle.vb_syntax.specs.declared.note.Around.{Around}
use Rattle.vb_syntax.specs.declared.note.PathUse.{PathUse}
use Rattle.vb_syntax.specs.declared.note.Shape.{Shape}
use Rattle.vb_syntax.specs.scope.Notes.{Notes, expression_layer, step_layer, operation_layer, path_layer, head_notes}
use Rattle.vb_syntax.specs.scope.Notes.{expression_notes, operation_notes, path_notes, step_notes}
use Rattle.vb_syntax.specs.scope.Shapes.{shape_of, layer_shape, used_steps}

module _ (line : ℕ) (around : Around) where
  pub notes-chain : (first : Expression) (rest : List Operation) → expression_notes line around (e.Chain first rest)
      ≡ expression_notes line around first ++ flat_map (λ (x : Notes). x) (map (operation_notes line around) rest)
  notes-chain first rest = ap (expression_notes line around) (sym (e.rolls-Chain first rest))
      ∙ fold-roll-Expression Notes (Shape × Notes) Notes (PathUse → Notes)
      (expression_layer line around) (step_layer line around) (operation_layer line around) (path_layer line around)
      (Expression-F.Chain first rest)

  -- what a step looks like in what it says
  pub shape-step : (step : Step) → (step_notes line around step).0 ≡ shape_of step
  shape-step step = ap (λ (said : Shape × Notes). said.0) (fold_out-Step Notes (Shape × Notes) Notes (PathUse → Notes)
      (expression_layer line around) (step_layer line around) (operation_layer line around) (path_layer line around)
      step) ∙ of (expression_notes line around) (step_notes line around) (operation_notes line around)
      (path_notes line around) (out-Step step)
    where
      of : (f : Expression → Notes) (g : Step → Shape × Notes) (h : Operation → Notes) (i : Path → PathUse → Notes)
          (layer : Step-F Expression Step Operation Path) → (step_layer line around (map-Step Expression Step Operation
          Path Notes (Shape × Notes) Notes (PathUse → Notes) f g h i layer)).0 ≡ layer_shape layer
      of f g h i (Step-F.Member name) = refl
      of f g h i (Step-F.Group given) = refl

  shapes-steps : (steps : List Step)
      → map (λ (said : Shape × Notes). said.0) (map (step_notes line around) steps) ≡ map shape_of steps
  shapes-steps [] = refl
  shapes-steps (step ∷ steps) =
      ap (λ s. s ∷ map (λ (said : Shape × Notes). said.0) (map (step_notes line around) steps)) (shape-step step)
      ∙ ap (λ l. shape_of step ∷ l) (shapes-steps steps)

  said-steps : (steps : List Step) → flat_map (λ (said : Shape × Notes). said.1) (map (step_notes line around) steps)
      ≡ flat_map (λ (step : Step). (step_notes line around step).1) steps
  said-steps [] = refl
  said-steps (step ∷ steps) = ap (λ l. (step_notes line around step).1 ++ l) (said-steps steps)

  pub notes-path : (path : Path) (used : PathUse) → path_notes line around path used
      ≡ head_notes line around used path.head (used_steps used (map shape_of path.steps))
      ++ flat_map (λ (step : Step). (step_notes line around step).1) path.steps
  notes-path path used = ap (λ (said : PathUse → Notes). said used)
      (fold_out-Path Notes (Shape × Notes) Notes (PathUse → Notes)
      (expression_layer line around) (step_layer line around) (operation_layer line around) (path_layer line around)
      path)
      ∙ ap (λ l. head_notes line around used path.head (used_steps used l) ++ flat_map (λ (said : Shape × Notes). said.1)
      (map (step_notes line around) path.steps)) (shapes-steps path.steps)
      ∙ ap (λ l. head_notes line around used path.head (used_steps used (map shape_of path.steps)) ++ l) (said-steps path.steps)
