use Rattle.std.proofs.Common.{◌∙◌, true, [], ◌∷◌, refl, sym, ap}
use Rattle.vb_syntax.specs.declared.program.unit.Procedure.{Procedure}
use Rattle.vb_syntax.specs.scope.Programs as spec
use Rattle.vb_syntax.specs.scope.Units as units
use Rattle.vb_notes.specs.Bodies.{body_seen}
use Rattle.vb_names.specs.Declarations.{declarations_seen}
use Rattle.vb_scope.proofs.Giving.{adds_one}
use Rattle.vb_scope.proofs.Programs.{same_procedure}
use Rattle.vb_scope.proofs.trees.units.push_procedure.Goals as goal

pub returns-in_ok-procedure-in-Method : goal.returns-in_ok-procedure-in-Method
returns-in_ok-procedure-in-Method c =
    let explicit = c.args.script.explicit in
    let page = declarations_seen c.args.script.page.now in
    let names = c.args.script.names.now in
    let class = declarations_seen c.args.class.now in
    let found = c.in-Method.found in
    let same = same_procedure explicit page names class class c.heading_of-heading.result.access found.access
    c.heading_of-heading.result.kind (spec.kind_of found.kind) c.heading_of-heading.result.name.now found.name
    (body_seen c.body_of-body.result) (units.body_of true found) refl c.heading_of-heading.ensures.access
    c.heading_of-heading.ensures.kind c.heading_of-heading.ensures.name c.body_of-body.ensures in
    adds_one c.push.result c.args.all.now c.push.new.self c.in_ok-procedure-in-Method.field-0
    (spec.procedure_member explicit page names class c.args.member.now) c.push.ensures
    (ap (λ (made : Procedure). made ∷ []) (c.in_ok-procedure-in-Method.ensures ∙ same)
    ∙ sym (ap (spec.procedure_member explicit page names class) c.in-Method.is))

pub returns-in_ok-procedure-in-Property : goal.returns-in_ok-procedure-in-Property
returns-in_ok-procedure-in-Property c =
    let explicit = c.args.script.explicit in
    let page = declarations_seen c.args.script.page.now in
    let names = c.args.script.names.now in
    let class = declarations_seen c.args.class.now in
    let found = c.in-Property.found in
    let same = same_procedure explicit page names class class c.heading_of_property-heading.result.access found.access
    c.heading_of_property-heading.result.kind (spec.kind_of_property found.kind)
    c.heading_of_property-heading.result.name.now found.name
    (body_seen c.body_of_property-body.result) (units.body_of_property found) refl
    c.heading_of_property-heading.ensures.access c.heading_of_property-heading.ensures.kind
    c.heading_of_property-heading.ensures.name c.body_of_property-body.ensures in
    adds_one c.push-in-Property.result c.args.all.now c.push-in-Property.new.self c.in_ok-procedure-in-Property.field-0
    (spec.procedure_member explicit page names class c.args.member.now) c.push-in-Property.ensures
    (ap (λ (made : Procedure). made ∷ []) (c.in_ok-procedure-in-Property.ensures ∙ same)
    ∙ sym (ap (spec.procedure_member explicit page names class) c.in-Property.is))
