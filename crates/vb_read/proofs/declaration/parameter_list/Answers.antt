use Rattle.std.proofs.Common.{sym, ◌∙◌}
use Rattle.vb_read.proofs.Commas.{comma_less, comma_turn}
use Rattle.vb_read.proofs.DeclarationReading.{reads_parameter}
use Rattle.vb_read.proofs.declaration.parameter_list.Goals as goal

pub loop-cursor-smaller : goal.loop-cursor-smaller
loop-cursor-smaller c = comma_less (reads_parameter c.args.depth) _ _ _ _ _ c.in_ok-symbol.ensures
    c.in_ok-parameter-2.ensures

pub loop-cursor-preserved : goal.loop-cursor-preserved
loop-cursor-preserved c = comma_turn (reads_parameter c.args.depth) (λ l. l) _ c.loop-cursor.found _
    c.loop-cursor.cursor.rest.now _ _ _ _
    c.loop-cursor.invariant (sym c.sees_symbol.ensures ∙ c.loop-cursor-test.true) c.in_ok-symbol.ensures
    c.in_ok-parameter-2.ensures c.in_ok-push-2.ensures
