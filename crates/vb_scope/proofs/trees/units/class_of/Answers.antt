use Rattle.std.proofs.Common.{◌∙◌, List, map, sym, ap}
use Rattle.vb_syntax.specs.declared.unit.ClassMember.{ClassMember}
use Rattle.vb_syntax.specs.scope.Scopes.{Declarations, class_scope}
use Rattle.vb_names.specs.Declarations.{declarations_seen}
use Rattle.vb_scope.specs.Inside.{member_scope}
use Rattle.std.specs.List.{flat_map}
use Rattle.vb_syntax.specs.scope.Programs as spec
use Rattle.vb_scope.proofs.Last.{last_apart}
use Rattle.vb_scope.proofs.trees.units.class_of.Goals as goal

pub procedures-procedures-requires : goal.procedures-procedures-requires
procedures-procedures-requires c =
    let page = declarations_seen c.args.script.page.now in
    let own = class_scope c.args.found.now in
    let apart = last_apart declarations_seen c.pop.new.self c.in-Some.scope
    (map (member_scope c.args.script.explicit page own) c.args.found.now.members) own
    (ap (map declarations_seen) (sym c.in-Some.ensures) ∙ c.requires) in
    apart.0
    ∙ ap (λ (class : Declarations). map (member_scope c.args.script.explicit page class) c.args.found.now.members)
    (sym apart.1)
    ∙ ap (λ (members : List ClassMember). map (member_scope c.args.script.explicit page
    (declarations_seen c.in-Some.scope)) members) (sym c.as_slice.ensures)

pub class_with-requires : goal.class_with-requires
class_with-requires c =
    let page = declarations_seen c.args.script.page.now in
    let own = class_scope c.args.found.now in
    let names = c.args.script.names.now in
    let explicit = c.args.script.explicit in
    let apart = last_apart declarations_seen c.pop.new.self c.in-Some.scope
    (map (member_scope explicit page own) c.args.found.now.members) own
    (ap (map declarations_seen) (sym c.in-Some.ensures) ∙ c.requires) in
    c.in_ok-procedures.ensures
    ∙ ap (λ (members : List ClassMember). flat_map (spec.procedure_member explicit page names
    (declarations_seen c.in-Some.scope)) members) c.as_slice.ensures
    ∙ ap (λ (class : Declarations). flat_map (spec.procedure_member explicit page names class)
    c.args.found.now.members) apart.1
