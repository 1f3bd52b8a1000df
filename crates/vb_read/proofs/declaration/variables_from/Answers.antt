use Rattle.std.proofs.Common.{sym, ◌∙◌}
use Rattle.vb_read.proofs.Commas.{comma_less, comma_turn}
use Rattle.vb_read.proofs.DeclarationReading.{reads_declared}
use Rattle.vb_read.proofs.declaration.variables_from.Goals as goal

pub loop-alloc-smaller : goal.loop-alloc-smaller
loop-alloc-smaller c = comma_less (reads_declared c.args.depth) _ _ _ _ _ c.in_ok-symbol.ensures
    c.in_ok-declared.ensures

pub loop-alloc-preserved : goal.loop-alloc-preserved
loop-alloc-preserved c = comma_turn (reads_declared c.args.depth) (λ l. l) _ c.loop-alloc.found _
    c.loop-alloc.cursor.rest.now _ _ _ _
    c.loop-alloc.invariant (sym c.sees_symbol.ensures ∙ c.loop-alloc-test.true) c.in_ok-symbol.ensures
    c.in_ok-declared.ensures c.in_ok-push-2.ensures
