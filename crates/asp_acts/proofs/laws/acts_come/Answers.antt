use Rattle.asp_acts.specs.Acts.{act_comes}
use Rattle.asp_acts.proofs.laws.acts_come.Goals as goal

pub returns : goal.returns
returns c = act_comes
