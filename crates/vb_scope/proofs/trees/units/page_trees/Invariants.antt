use Rattle.std.proofs.Common.{◌≡◌, ◌++◌, length, map}
use Rattle.std.specs.List.{flat_map}
use Rattle.std.specs.Vec.Iter.{into_iter_items}
use Rattle.vb_syntax.specs.scope.Programs as spec
use Rattle.vb_syntax.specs.scope.Units as units
use Rattle.vb_names.specs.Declarations.{declarations_seen}
use Rattle.vb_scope.specs.Inside.{scopes_inside}
use Rattle.vb_scope.proofs.trees.units.page_trees.Given as goal

abbrev pub invariant-loop-item : goal.invariant-loop-item
invariant-loop-item l =
    (map (map declarations_seen) (into_iter_items l.inside)
    ≡ map (scopes_inside l.script.explicit (declarations_seen l.script.page.now)) (into_iter_items l.items))
    × (l.all.body ++ flat_map (spec.own_statement (declarations_seen l.script.page.now) l.script.names.now)
    (into_iter_items l.items)
    ≡ flat_map (spec.own_statement (declarations_seen l.script.page.now) l.script.names.now)
    (into_iter_items l.initial.items))
    × (l.all.procedures ++ map (spec.procedure_of l.script.explicit (declarations_seen l.script.page.now)
    l.script.names.now) (units.procedures_of (into_iter_items l.items))
    ≡ map (spec.procedure_of l.script.explicit (declarations_seen l.script.page.now) l.script.names.now)
    (units.procedures_of (into_iter_items l.initial.items)))
    × (l.all.classes ++ map (spec.class_of l.script.explicit (declarations_seen l.script.page.now)
    l.script.names.now) (units.classes_of (into_iter_items l.items))
    ≡ map (spec.class_of l.script.explicit (declarations_seen l.script.page.now) l.script.names.now)
    (units.classes_of (into_iter_items l.initial.items)))

abbrev pub decreases-loop-item : goal.decreases-loop-item
decreases-loop-item l = length (into_iter_items l.items)
