use Rattle.std.proofs.Common.{arith}
use Rattle.std.specs.Int.{w16}
use Rattle.function_laws.proofs.Texts.{cast_back, integer_again}
use Rattle.function_laws.proofs.laws.texts_of_integers_read_back.Goals as goal

pub returns : goal.returns
returns c =
    let fits = c.ranges.n.sfits in
    integer_again c.args.n fits (cast_back w16 c.args.n c.ranges.n (omega (arith, fits)) c.currency_reads_back.ensures)
