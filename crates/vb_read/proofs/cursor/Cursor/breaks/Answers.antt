use Rattle.std.proofs.Common.{refl, sym, ◌∙◌}
use Rattle.vb_syntax.specs.grammar.Statements.{break_of}
use Rattle.vb_read.specs.Reader as reader
use Rattle.vb_read.specs.ReadLines as spec
use Rattle.vb_read.proofs.Turns.{list_turn}
use Rattle.vb_read.proofs.LineReading.{moves_break}
use Rattle.vb_read.proofs.cursor.Cursor.breaks.Goals as goal

pub loop-self-preserved : goal.loop-self-preserved
loop-self-preserved c = list_turn spec.breaks (reader.one break_of) moves_break refl (λ _. tt {0})
    _ c.loop-self.self.rest.now _ _ c.loop-self.invariant
    (sym c.sees_break.ensures ∙ c.loop-self-test.true) c.in_ok-take_break.ensures

pub loop-self-smaller : goal.loop-self-smaller
loop-self-smaller c = moves_break _ _ _ c.in_ok-take_break.ensures
