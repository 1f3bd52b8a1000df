use Rattle.std.proofs.Common.{◌∙◌, false, [], map, sym, ap, subst}
use Rattle.vb_value.specs.Outcome.{Gives}
use Rattle.vb_syntax.specs.declared.program.unit.Procedure.{Procedure}
use Rattle.vb_syntax.specs.scope.Programs as spec
use Rattle.vb_syntax.specs.scope.Scopes.{Declarations, nothing_declared, body_scope}
use Rattle.vb_syntax.specs.scope.Units as units
use Rattle.vb_syntax.specs.scope.Units.{Body}
use Rattle.vb_notes.specs.Bodies.{body_seen}
use Rattle.vb_names.specs.Declarations.{declarations_seen}
use Rattle.vb_scope.proofs.Last.{last_apart}
use Rattle.vb_scope.proofs.Programs.{same_procedure}
use Rattle.vb_scope.proofs.trees.units.page_procedure.Goals as goal

pub procedure-made-requires : goal.procedure-made-requires
procedure-made-requires c =
    let explicit = c.args.script.explicit in
    let page = declarations_seen c.args.script.page.now in
    let body = units.body_of false c.args.found.now in
    let apart = last_apart declarations_seen c.pop.new.self c.in-Some.scope [] (body_scope explicit page nothing_declared body)
    (ap (map declarations_seen) (sym c.in-Some.ensures) ∙ c.requires) in
    apart.1
    ∙ ap (λ (class : Declarations). body_scope explicit page class body) (sym c.new-nothing.ensures)
    ∙ ap (λ (found : Body). body_scope explicit page (declarations_seen c.new-nothing.result) found)
    (sym c.body_of.ensures)

pub returns : goal.returns
returns c =
    let explicit = c.args.script.explicit in
    let page = declarations_seen c.args.script.page.now in
    let names = c.args.script.names.now in
    let found = c.args.found.now in
    let same = same_procedure explicit page names (declarations_seen c.new-nothing.result) nothing_declared
    c.heading_of.result.access found.access c.heading_of.result.kind (spec.kind_of found.kind)
    c.heading_of.result.name.now found.name (body_seen c.body_of.result) (units.body_of false found)
    c.new-nothing.ensures c.heading_of.ensures.access c.heading_of.ensures.kind c.heading_of.ensures.name
    c.body_of.ensures in
    subst (λ (made : Procedure). Gives c.procedure-made.result made) same c.procedure-made.ensures
