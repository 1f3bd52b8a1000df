use Rattle.asp_core.proofs.Accounts as told
use Rattle.asp_core.proofs.Finishing as finishing
use Rattle.asp_core.proofs.laws.account_steps.Goals as goal

pub returns-clause-step : goal.returns-clause-step
returns-clause-step c = finishing.account_step

pub returns-clause-told : goal.returns-clause-told
returns-clause-told c = finishing.it_tells

pub returns-clause-live : goal.returns-clause-live
returns-clause-live c = told.live_are

pub returns-clause-askable : goal.returns-clause-askable
returns-clause-askable c = told.askable_is

pub returns-clause-full : goal.returns-clause-full
returns-clause-full c = told.most_are

pub returns-clause-due : goal.returns-clause-due
returns-clause-due c = told.due_are
