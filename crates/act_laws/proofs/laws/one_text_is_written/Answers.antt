use Rattle.act_laws.proofs.OneText.{one_text}
use Rattle.act_laws.proofs.laws.one_text_is_written.Goals as goal

pub returns : goal.returns
returns g c = one_text _
