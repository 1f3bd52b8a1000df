use Rattle.value_laws.proofs.SoundTexts.{whole_short}
use Rattle.value_laws.proofs.laws.whole_is_short.Goals as goal

pub returns : goal.returns
returns c = whole_short c.args.n c.ranges.n.sfits
