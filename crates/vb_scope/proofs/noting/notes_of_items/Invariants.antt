use Rattle.std.proofs.Common.{◌≡◌, map, take}
use Rattle.std.specs.List.{flat_map}
use Rattle.vb_syntax.specs.scope.Units as spec
use Rattle.vb_scope.proofs.Parts.{note_count}
use Rattle.vb_scope.proofs.noting.notes_of_items.Given as goal

abbrev pub invariant-loop-item : goal.invariant-loop-item
invariant-loop-item l =
    (l.notes ≡ flat_map spec.item_notes (take l.item-index l.items))
    × (l.counts ≡ map note_count (take l.item-index l.items))
