use Rattle.std.proofs.Common.{sym, ◌∙◌}
use Rattle.vb_read.proofs.Commas.{comma_less, comma_turn}
use Rattle.vb_read.proofs.SimpleReading.{reads_resized_at}
use Rattle.vb_read.proofs.simple.arrays.Goals as goal

pub loop-alloc-smaller : goal.loop-alloc-smaller
loop-alloc-smaller c = comma_less (reads_resized_at c.args.depth).1 _ _ _ _ _ c.in_ok-symbol.ensures
    c.in_ok-resized-2.ensures

pub loop-alloc-preserved : goal.loop-alloc-preserved
loop-alloc-preserved c = comma_turn (reads_resized_at c.args.depth).1 (λ l. l) _ c.loop-alloc.found _
    c.loop-alloc.cursor.rest.now _ _ _ _
    c.loop-alloc.invariant (sym c.sees_symbol.ensures ∙ c.loop-alloc-test.true) c.in_ok-symbol.ensures
    c.in_ok-resized-2.ensures c.in_ok-push-2.ensures
