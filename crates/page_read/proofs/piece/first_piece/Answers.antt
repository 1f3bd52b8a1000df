use Rattle.std.proofs.Common.{arith, refl}
use Rattle.page_read.proofs.Pieces.{form_read, form_there}
use Rattle.page_read.proofs.piece.first_piece.Goals as goal

pub returns-then-count-eq0-clause-value : goal.returns-then-count-eq0-clause-value
returns-then-count-eq0-clause-value c =
    form_read c.args.page.now c.args.text.now _ c.args.line c.opened.result
    (form_there c.args.text.now c.in_ok-count.count c.if-count-eq0.true (omega (arith, c.requires.filled))
    c.in_ok-count.ensures.ends)
    refl c.requires.line c.opened.ensures.value
