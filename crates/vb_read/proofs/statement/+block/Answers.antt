use Rattle.std.proofs.Common.{refl, sym, ap, ◌∙◌}
use Rattle.vb_read.specs.ReadLines.{Blocks}
use Rattle.vb_read.specs.ReadStatements as spec
use Rattle.vb_read.specs.Depths.{rules}
use Rattle.vb_read.proofs.Depths.{blocks_at}
use Rattle.vb_read.proofs.Turns.{found_turn, and_nothing}
use Rattle.vb_read.proofs.Cases.{moves_sentence}
use Rattle.vb_read.proofs.statement.+block.Goals as goal

pub loop-place-init : goal.loop-place-init
loop-place-init t c = rw c.new-found.ensures (ap (λ (b : Blocks). b.block c.args.cursor.now.rest.now)
    (blocks_at (rules c.args.looser) c.args.depth)
    ∙ and_nothing (spec.block (rules c.args.looser) c.args.depth (spec.blocks_inside (rules c.args.looser) c.args.depth)
    c.args.cursor.now.rest.now))

pub loop-place-smaller : goal.loop-place-smaller
loop-place-smaller t c = moves_sentence (rules c.args.looser) c.args.depth _ _ _ c.in_ok-sentence.ensures

pub loop-place-preserved : goal.loop-place-preserved
loop-place-preserved t c = found_turn spec.begins_statement (spec.sentence (rules c.args.looser) c.args.depth
    (spec.blocks_inside (rules c.args.looser) c.args.depth)) (moves_sentence (rules c.args.looser) c.args.depth)
    refl (λ l. l) _ c.loop-place.found _ c.loop-place.cursor.rest.now _ _ c.loop-place.invariant
    (sym c.begins_statement.ensures ∙ c.loop-place-test.true) c.in_ok-sentence.ensures c.in_ok-push.ensures
