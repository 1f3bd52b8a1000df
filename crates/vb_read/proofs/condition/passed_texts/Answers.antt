use Rattle.std.proofs.Common.{refl, sym, ap, ◌∙◌}
use Rattle.vb_syntax.specs.grammar.Statements.{passed}
use Rattle.vb_read.specs.Reader as reader
use Rattle.vb_read.specs.Reader.{and_then}
use Rattle.vb_read.specs.ReadLines.{«end»}
use Rattle.vb_read.specs.ReadStatements as spec
use Rattle.vb_read.proofs.Turns.{list_turn}
use Rattle.vb_read.proofs.Cases.{moves_passed_text}
use Rattle.vb_read.proofs.condition.passed_texts.Goals as goal

pub loop-cursor-smaller : goal.loop-cursor-smaller
loop-cursor-smaller c = moves_passed_text c.args.any _ _ _ (ap (λ o. and_then o (λ _. «end»)) c.in_ok-pass.ensures
    ∙ c.in_ok-end.ensures)

pub loop-cursor-preserved : goal.loop-cursor-preserved
unfolding spec.passed_texts
loop-cursor-preserved c = list_turn (reader.passes (passed c.args.any)) (spec.passed_text c.args.any)
    (moves_passed_text c.args.any) refl (λ _. tt {0}) _ c.loop-cursor.cursor.rest.now _ _ c.loop-cursor.invariant
    (sym c.sees_passed.ensures ∙ c.loop-cursor-test.true)
    (ap (λ o. and_then o (λ _. «end»)) c.in_ok-pass.ensures ∙ c.in_ok-end.ensures)
