use Rattle.std.proofs.Common.{◌≡◌, ◌∙◌, List, map, ap}
use Rattle.vb_syntax.specs.declared.declaration.Parameter.{Parameter}
use Rattle.vb_syntax.specs.scope.Scopes.{Declarations, scopes_of}
use Rattle.vb_syntax.specs.scope.Trees.{statement_of}
use Rattle.vb_notes.specs.Bodies.{body_seen}
use Rattle.vb_names.specs.Declarations.{declarations_seen}
use Rattle.vb_scope.proofs.Programs.{procedure_is}
use Rattle.vb_scope.proofs.trees.units.procedure.Goals as goal

pub returns-in-Ok-Ok : goal.returns-in-Ok-Ok
returns-in-Ok-Ok c =
    let page = declarations_seen c.args.script.page.now in
    let class = declarations_seen c.args.class.now in
    let names = c.args.script.names.now in
    let given : c.in-Ok-Ok.by_value ≡ map (λ (found : Parameter). found.by_value) c.as_slice.result.now
    = rw c.in-Ok-Ok.is-0 at c.by_value-by_value.ensures in
    let by_value : c.in-Ok-Ok.by_value ≡ map (λ (found : Parameter). found.by_value) c.args.body.parameters.now
    = given ∙ ap (λ (all : List Parameter). map (λ (found : Parameter). found.by_value) all) c.as_slice.ensures in
    let statements = c.in-Ok-Ok.ensures
    ∙ ap (λ (around : Declarations). map (statement_of names (scopes_of page class around)) c.args.body.statements.now)
    c.requires in
    procedure_is c.args.script.explicit page names class c.args.heading.access c.args.heading.kind
    c.args.heading.name.now (body_seen c.args.body) c.is_private.result c.name_number-name.result c.in-Ok-Ok.by_value
    (declarations_seen c.args.found) c.declared_in-variables.result.0 c.declared_in-variables.result.1
    c.in-Ok-Ok.statements c.is_private.ensures c.name_number-name.ensures by_value c.requires
    c.declared_in-variables.ensures.variables c.declared_in-variables.ensures.constants statements
