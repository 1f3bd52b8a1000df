use Rattle.std.proofs.Common.{arith}
use Rattle.std.specs.Int.{w32}
use Rattle.function_laws.proofs.Texts.{cast_back, long_again}
use Rattle.function_laws.proofs.laws.texts_of_longs_read_back.Goals as goal

pub returns : goal.returns
returns c =
    let fits = c.ranges.n.sfits in
    long_again c.args.n fits (cast_back w32 c.args.n c.ranges.n (omega (arith, fits)) c.currency_reads_back.ensures)
