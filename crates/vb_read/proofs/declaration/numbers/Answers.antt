use Rattle.std.proofs.Common.{◌≡◌, [], ◌∷◌, ◌++◌, sym, ◌∙◌, rules}
use Rattle.std.proofs.lemmas.Int.{to_z-of_z}
use Rattle.vb_read.proofs.Commas.{comma_less, comma_turn}
use Rattle.vb_read.proofs.DeclarationReading.{reads_number}
use Rattle.vb_read.proofs.declaration.numbers.Goals as goal

pub loop-cursor-smaller : goal.loop-cursor-smaller
loop-cursor-smaller c = comma_less reads_number _ _ _ _ _ c.in_ok-symbol.ensures c.in_ok-number-2.ensures

pub loop-cursor-preserved : goal.loop-cursor-preserved
loop-cursor-preserved c =
    let pushed : c.push-in-loop-cursor.new.self ≡ c.loop-cursor.found ++ c.in_ok-number-2.field-0 ∷ [] = search
    (rules, to_z-of_z) in
    comma_turn reads_number (λ l. l) _ c.loop-cursor.found _ c.loop-cursor.cursor.rest.now _ _ _ _
    c.loop-cursor.invariant (sym c.sees_symbol.ensures ∙ c.loop-cursor-test.true) c.in_ok-symbol.ensures
    c.in_ok-number-2.ensures pushed
