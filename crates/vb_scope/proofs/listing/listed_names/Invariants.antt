use Rattle.std.proofs.Common.{◌≡◌, ◌++◌, length}
use Rattle.std.specs.Vec.Iter.{into_iter_items}
use Rattle.vb_syntax.specs.scope.Programs as spec
use Rattle.vb_scope.proofs.listing.listed_names.Given as goal

abbrev pub invariant-loop-name : goal.invariant-loop-name
invariant-loop-name l =
    (l.all.variables ++ spec.names_where spec.is_place (into_iter_items l.names) l.meanings
    ≡ spec.names_where spec.is_place (into_iter_items l.initial.names) l.initial.meanings)
    × (l.all.procedures ++ spec.names_where spec.is_procedure (into_iter_items l.names) l.meanings
    ≡ spec.names_where spec.is_procedure (into_iter_items l.initial.names) l.initial.meanings)
    × (l.all.classes ++ spec.names_where spec.is_class (into_iter_items l.names) l.meanings
    ≡ spec.names_where spec.is_class (into_iter_items l.initial.names) l.initial.meanings)

abbrev pub decreases-loop-name : goal.decreases-loop-name
decreases-loop-name l = length (into_iter_items l.names)
