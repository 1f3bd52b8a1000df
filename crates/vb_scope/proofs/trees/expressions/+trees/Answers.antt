use Rattle.std.proofs.Common.{◌≡◌, map, rules, sym, ap, ◌∙◌}
use Rattle.vb_syntax.specs.declared.program.expression.Path.{roll-Path}
use Rattle.vb_syntax.specs.scope.Trees as spec
use Rattle.vb_syntax.specs.scope.Shapes.{shape_of, used_steps}
use Rattle.vb_names.specs.Declarations.{scopes_seen}
use Rattle.vb_scope.proofs.TreePaths.{path-is}
use Rattle.vb_scope.proofs.trees.expressions.+trees.Goals as goal

pub path-returns-in-Ok : goal.path-returns-in-Ok
path-returns-in-Ok t c =
    let names = c.args.place.names.now in
    let scopes = scopes_seen c.args.place.scopes in
    let begins = spec.head_of names scopes c.args.used c.args.found.now.head
    (used_steps c.args.used (map shape_of c.args.found.now.steps)) in
    let begin : (c.in_ok-head.head, c.in_ok-head.count) ≡ begins = search rules in
    let steps : c.in-Ok.steps
    ≡ spec.kept c.in_ok-head.count (map (spec.step_of names scopes) c.args.found.now.steps) = search rules in
    ap (λ steps. roll-Path (record { head = c.in_ok-head.head; steps = steps })) steps
    ∙ ap (λ begin. spec.resolved_path begin (map (spec.step_of names scopes) c.args.found.now.steps)) begin
    ∙ sym (path-is names scopes c.args.found.now c.args.used)
