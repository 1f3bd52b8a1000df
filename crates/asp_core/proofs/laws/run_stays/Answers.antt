use Rattle.asp_core.proofs.Moved.{no_steps, of_others}
use Rattle.asp_core.proofs.laws.run_stays.Goals as goal

pub returns-clause-steps : goal.returns-clause-steps
returns-clause-steps g c = no_steps g.R.Runner.meaning g.R.Runner.stands

pub returns-clause-others : goal.returns-clause-others
returns-clause-others g c = of_others g.R.Runner.meaning g.R.Runner.stands
