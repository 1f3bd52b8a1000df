use Rattle.std.proofs.Common.{◌≡◌, ◌++◌, length, map}
use Rattle.vb_syntax.specs.scope.Faults as spec
use Rattle.vb_names.specs.Checking.{so_far}
use Rattle.vb_names.specs.Declarations.{declarations_seen}
use Rattle.vb_scope.specs.Inside.{member_scope}
use Rattle.vb_scope.proofs.unit_checks.check_members.Given as goal

abbrev pub invariant-loop-members : goal.invariant-loop-members
invariant-loop-members l =
    (spec.members_faults l.explicit (declarations_seen l.page) (declarations_seen l.class) (so_far l.names l.declared) l.members
    ≡ spec.members_faults l.explicit (declarations_seen l.page) (declarations_seen l.class)
    (so_far l.initial.names l.initial.declared) l.initial.members)
    × (spec.after_members (so_far l.names l.declared) l.members
    ≡ spec.after_members (so_far l.initial.names l.initial.declared) l.initial.members)
    × (map declarations_seen l.all ++ map (member_scope l.explicit (declarations_seen l.page) (declarations_seen l.class))
    l.members
    ≡ map (member_scope l.explicit (declarations_seen l.page) (declarations_seen l.class)) l.initial.members)

abbrev pub decreases-loop-members : goal.decreases-loop-members
decreases-loop-members l = length l.members
