use Rattle.std.proofs.Common.{refl, sym, ◌∙◌}
use Rattle.vb_read.specs.ReadUnits as spec
use Rattle.vb_read.specs.Depths.{rules}
use Rattle.vb_read.proofs.Turns.{found_turn}
use Rattle.vb_read.proofs.UnitReading.{moves_item_line}
use Rattle.vb_read.proofs.unit.items.Goals as goal

pub loop-alloc-smaller : goal.loop-alloc-smaller
loop-alloc-smaller c = moves_item_line (rules c.args.looser) c.args.depth _ _ _ c.in_ok-item_line.ensures

pub loop-alloc-preserved : goal.loop-alloc-preserved
loop-alloc-preserved c = found_turn spec.begins_item (spec.item_line (rules c.args.looser) c.args.depth)
    (moves_item_line (rules c.args.looser) c.args.depth) refl (λ l. l) _ c.loop-alloc.found _
    c.loop-alloc.cursor.rest.now _ _ c.loop-alloc.invariant (sym c.begins_item.ensures ∙ c.loop-alloc-test.true)
    c.in_ok-item_line.ensures c.in_ok-push.ensures
