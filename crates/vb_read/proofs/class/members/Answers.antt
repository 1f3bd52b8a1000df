use Rattle.std.proofs.Common.{refl, sym, ◌∙◌}
use Rattle.vb_read.specs.ReadUnits as spec
use Rattle.vb_read.specs.Depths.{rules}
use Rattle.vb_read.proofs.Turns.{found_turn}
use Rattle.vb_read.proofs.UnitReading.{moves_member_line}
use Rattle.vb_read.proofs.class.members.Goals as goal

pub loop-alloc-smaller : goal.loop-alloc-smaller
loop-alloc-smaller c = moves_member_line (rules c.args.looser) c.args.depth _ _ _ c.in_ok-member_line.ensures

pub loop-alloc-preserved : goal.loop-alloc-preserved
loop-alloc-preserved c = found_turn spec.begins_member (spec.member_line (rules c.args.looser) c.args.depth)
    (moves_member_line (rules c.args.looser) c.args.depth) refl (λ l. l) _ c.loop-alloc.found _
    c.loop-alloc.cursor.rest.now _ _ c.loop-alloc.invariant (sym c.begins_member.ensures ∙ c.loop-alloc-test.true)
    c.in_ok-member_line.ensures c.in_ok-push.ensures
