use Rattle.std.proofs.Common.{refl, sym, ◌∙◌}
use Rattle.vb_read.specs.Reader as reader
use Rattle.vb_read.specs.ReadUnits as spec
use Rattle.vb_read.proofs.Turns.{found_turn}
use Rattle.vb_read.proofs.UnitReading.{moves_blank_item}
use Rattle.vb_read.proofs.unit.blank_items.Goals as goal

pub loop-found-smaller : goal.loop-found-smaller
loop-found-smaller c = moves_blank_item _ _ _ c.in_ok-blank_item.ensures

pub loop-found-preserved : goal.loop-found-preserved
loop-found-preserved c = found_turn (reader.passes spec.blank_at) spec.blank_item moves_blank_item refl (λ l. l) _
    c.loop-found.found _ c.loop-found.cursor.rest.now _ _ c.loop-found.invariant
    (sym c.sees_blank_text.ensures ∙ c.loop-found-test.true) c.in_ok-blank_item.ensures c.in_ok-push.ensures
