use Rattle.std.proofs.Common.{◌≡◌, ◌++◌, length, map}
use Rattle.std.specs.List.{flat_map}
use Rattle.std.specs.Vec.Iter.{into_iter_items}
use Rattle.vb_syntax.specs.scope.Programs as spec
use Rattle.vb_names.specs.Declarations.{declarations_seen}
use Rattle.vb_scope.specs.Inside.{member_scope}
use Rattle.vb_scope.proofs.trees.units.procedures.Given as goal

abbrev pub invariant-loop-members : goal.invariant-loop-members
invariant-loop-members l =
    (map declarations_seen (into_iter_items l.scopes)
    ≡ map (member_scope l.script.explicit (declarations_seen l.script.page.now) (declarations_seen l.class)) l.members)
    × (l.all ++ flat_map (spec.procedure_member l.script.explicit (declarations_seen l.script.page.now)
    l.script.names.now (declarations_seen l.class)) l.members
    ≡ flat_map (spec.procedure_member l.script.explicit (declarations_seen l.script.page.now) l.script.names.now
    (declarations_seen l.class)) l.initial.members)

abbrev pub decreases-loop-members : goal.decreases-loop-members
decreases-loop-members l = length l.members
