use Rattle.asp_core.proofs.Bearing as bearing
use Rattle.asp_core.proofs.laws.events_bear_lane.Goals as goal

pub returns-clause-tick : goal.returns-clause-tick
returns-clause-tick c = bearing.tick_of

pub returns-clause-admit : goal.returns-clause-admit
returns-clause-admit c = bearing.admit_of

pub returns-clause-stop : goal.returns-clause-stop
returns-clause-stop c = bearing.stop_of
