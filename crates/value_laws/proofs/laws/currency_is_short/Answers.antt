use Rattle.value_laws.proofs.SoundTexts.{currency_short}
use Rattle.value_laws.proofs.laws.currency_is_short.Goals as goal

pub returns : goal.returns
returns c = currency_short c.args.n c.ranges.n.sfits
