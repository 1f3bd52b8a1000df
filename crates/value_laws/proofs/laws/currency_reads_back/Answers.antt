use Rattle.value_laws.proofs.ReadBack.{reads_back}
use Rattle.value_laws.proofs.laws.currency_reads_back.Goals as goal

pub returns : goal.returns
returns c = reads_back c.args.amount c.ranges.amount.sfits
