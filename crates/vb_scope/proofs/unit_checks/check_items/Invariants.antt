use Rattle.std.proofs.Common.{◌≡◌, ◌≤◌, ◌++◌, length, map, sum}
use Rattle.vb_syntax.specs.scope.Faults as spec
use Rattle.vb_syntax.specs.scope.Units as units
use Rattle.vb_names.specs.Checking.{so_far}
use Rattle.vb_names.specs.Declarations.{declarations_seen}
use Rattle.vb_scope.specs.Inside.{scopes_inside}
use Rattle.vb_scope.specs.Parts.{parts_by}
use Rattle.vb_scope.proofs.unit_checks.check_items.Given as goal

abbrev pub invariant-loop-items : goal.invariant-loop-items
invariant-loop-items l =
    (spec.items_faults l.explicit (declarations_seen l.page) (so_far l.names l.declared) l.items
    ≡ spec.items_faults l.explicit (declarations_seen l.page) (so_far l.initial.names l.initial.declared) l.initial.items)
    × (spec.after_items (so_far l.names l.declared) l.items
    ≡ spec.after_items (so_far l.initial.names l.initial.declared) l.initial.items)
    × (map (map declarations_seen) l.all ++ map (scopes_inside l.explicit (declarations_seen l.page)) l.items
    ≡ map (scopes_inside l.explicit (declarations_seen l.page)) l.initial.items)
    × (parts_by l.counts l.notes ≡ map units.item_notes l.items)
    × (sum l.counts ≤ length l.notes)

abbrev pub decreases-loop-items : goal.decreases-loop-items
decreases-loop-items l = length l.items
