use Rattle.std.proofs.Common.{refl}
use Rattle.asp_serve.proofs.Lanes.{works_none}
use Rattle.asp_serve.proofs.working.rest.Goals as goal

pub returns-in-No-clause-ok : goal.returns-in-No-clause-ok
returns-in-No-clause-ok g c = works_none c.args.hand.now.lane c.args.hand.now.lane refl

pub returns-in-Blocked-clause-ok : goal.returns-in-Blocked-clause-ok
returns-in-Blocked-clause-ok g c = works_none c.args.hand.now.lane c.args.hand.now.lane refl
