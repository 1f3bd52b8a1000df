use Rattle.std.proofs.Common.{refl, sym, ◌∙◌}
use Rattle.vb_value.specs.declared.token.Symbol.TheVariants as s
use Rattle.vb_value.specs.declared.token.TokenKind.TheVariants as kind
use Rattle.vb_read.specs.Reader as reader
use Rattle.vb_read.proofs.Turns.{list_turn}
use Rattle.vb_read.proofs.Reading.{moves_word}
use Rattle.vb_read.proofs.cursor.Cursor.colons.Goals as goal

pub loop-self-preserved : goal.loop-self-preserved
loop-self-preserved c = list_turn (reader.sees (kind.Symbol s.Colon)) (reader.symbol s.Colon)
    (moves_word (kind.Symbol s.Colon)) refl (λ _. tt {0}) _ c.loop-self.self.rest.now _ _ c.loop-self.invariant
    (sym c.sees_symbol.ensures ∙ c.loop-self-test.true) c.in_ok-symbol.ensures

pub loop-self-smaller : goal.loop-self-smaller
loop-self-smaller c = moves_word (kind.Symbol s.Colon) _ _ _ c.in_ok-symbol.ensures
