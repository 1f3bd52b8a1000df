use Rattle.std.proofs.Common.{◌≡◌, map, take, take_all}
use Rattle.std.specs.List.{flat_map}
use Rattle.vb_syntax.specs.scope.Units as spec
use Rattle.vb_scope.proofs.Parts.{note_count, parts_are}
use Rattle.vb_scope.proofs.noting.notes_of_items.Goals as goal

pub returns-clause-parts : goal.returns-clause-parts
returns-clause-parts c =
    let items = c.args.items.now in
    let all : take c.loop-item.item-index items ≡ items
    = take_all c.loop-item.item-index items c.loop-item-test.false in
    let counts : c.loop-item.counts ≡ map note_count items = rw all at c.loop-item.invariant.1 in
    let notes : c.loop-item.notes ≡ flat_map spec.item_notes items = rw all at c.loop-item.invariant.0 in
    parts_are items c.loop-item.counts c.loop-item.notes counts notes
