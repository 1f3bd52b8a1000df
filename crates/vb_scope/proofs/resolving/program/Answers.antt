use Rattle.std.proofs.Common.{◌≡◌, map, refl}
use Rattle.std.specs.List.{flat_map}
use Rattle.vb_syntax.specs.scope.Programs.{Parts, program_of, own_statement, procedure_of, class_of}
use Rattle.vb_syntax.specs.scope.Units.{procedures_of, classes_of}
use Rattle.vb_names.specs.Declarations.{declarations_seen}
use Rattle.vb_scope.proofs.Programs.{resolved, parts_are}
use Rattle.vb_scope.proofs.resolving.program.Goals as goal
use Rattle.vb_scope.proofs.resolving.program.Goals.{After-unit_of}

-- the parts are the program of the script
made : (c : After-unit_of) → ◌≡◌ {A = Parts}
    (record {
      unit = c.unit_of.result;
      vars = c.in-Ok-Ok.listed.variables;
      procs = c.in-Ok-Ok.listed.procedures;
      classes = c.in-Ok-Ok.listed.classes;
      explicit = c.args.unit.option_explicit;
    })
    (program_of c.args.unit)
made c =
    let unit = c.args.unit in
    let page = declarations_seen c.args.page in
    let names = c.args.checked.0 in
    let explicit = unit.option_explicit in
    let body : c.in-Ok-Ok.trees.body ≡ flat_map (own_statement page names) unit.items
    = rw c.in-Ok-Ok.is-0 at c.page_trees-trees.ensures.body in
    let procedures : c.in-Ok-Ok.trees.procedures
    ≡ map (procedure_of explicit page names) (procedures_of unit.items)
    = rw c.in-Ok-Ok.is-0 at c.page_trees-trees.ensures.procedures in
    let classes : c.in-Ok-Ok.trees.classes ≡ map (class_of explicit page names) (classes_of unit.items)
    = rw c.in-Ok-Ok.is-0 at c.page_trees-trees.ensures.classes in
    let listed = c.in-Ok-Ok.listed in
    parts_are unit page names c.in-Ok-Ok.trees.body c.in-Ok-Ok.trees.procedures c.in-Ok-Ok.trees.classes names
    listed.variables listed.procedures listed.classes listed.declared listed.constants listed.dictionary
    c.unit_of.result
    c.requires.page c.requires.names (body, procedures, classes)
    (c.in-Ok-Ok.ensures.variables, c.in-Ok-Ok.ensures.procedures, c.in-Ok-Ok.ensures.classes)
    c.in-Ok-Ok.ensures.declared c.in-Ok-Ok.ensures.constants refl c.in-Ok-Ok.ensures.dictionary c.unit_of.ensures

pub returns-in-Ok-Ok : goal.returns-in-Ok-Ok
returns-in-Ok-Ok c = made (goal.at.returns-in-Ok-Ok c).After-unit_of

pub invariant_of-result : goal.invariant_of-result
invariant_of-result c = record { resolved = resolved c.args.unit _ c.requires.faultless (made c) }
