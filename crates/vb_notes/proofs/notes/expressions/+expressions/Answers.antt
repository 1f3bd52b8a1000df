use Rattle.std.proofs.Common.{◌≡◌, ◌++◌, map, refl, ap, ◌∙◌, rules}
use Rattle.std.specs.List.{flat_map}
use Rattle.vb_syntax.specs.declared.expression.Step.{Step}
use Rattle.vb_syntax.specs.scope.Notes as spec
use Rattle.vb_syntax.specs.scope.Notes.{Notes}
use Rattle.vb_syntax.specs.scope.Shapes.{shape_of, used_steps}
use Rattle.vb_notes.proofs.Adding.{adds_more}
use Rattle.vb_notes.proofs.ExpressionNotes.{notes-chain, notes-path}
use Rattle.vb_notes.proofs.notes.expressions.+expressions.Goals as goal

pub note_expression-returns-in_ok-note_expression-in-Chain : goal.note_expression-returns-in_ok-note_expression-in-Chain
note_expression-returns-in_ok-note_expression-in-Chain t c =
    let first = spec.expression_notes c.args.line c.args.around c.get-in-Chain.result.now in
    let rest = flat_map (λ (x : Notes). x) (map (spec.operation_notes c.args.line c.args.around)
    c.as_slice.result.now) in
    let whole : spec.expression_notes c.args.line c.args.around c.args.expression.now ≡ first ++ rest =
    ap (spec.expression_notes c.args.line c.args.around) c.in-Chain.is
    ∙ notes-chain c.args.line c.args.around c.in-Chain.first c.in-Chain.rest
    ∙ rw (c.get-in-Chain.ensures, c.as_slice.ensures) refl in
    adds_more _ _ _ _ first rest _ c.in_ok-note_expression-in-Chain.ensures whole c.note_operations.ensures

pub note_path-returns : goal.note_path-returns
note_path-returns t c = adds_more _ _ _ _
    (spec.head_notes c.args.line c.args.around c.args.used c.args.path.now.head
    (used_steps c.args.used (map shape_of c.args.path.now.steps)))
    (flat_map (λ (step : Step). (spec.step_notes c.args.line c.args.around step).1) c.args.path.now.steps)
    _ c.in_ok-note_head.ensures (notes-path c.args.line c.args.around c.args.path.now c.args.used) (search rules)
