use Rattle.asp_serve.proofs.Asking.{hindered_then}
use Rattle.asp_serve.proofs.Lanes.{works_then}
use Rattle.asp_serve.proofs.working.look_for.Goals as goal

pub returns-in-Ok-clause-waits : goal.returns-in-Ok-clause-waits
returns-in-Ok-clause-waits g c = works_then _ _ _ c.in-None.ensures.none c.in-Ok.ensures.ok

pub returns-in-Err-clause-waits : goal.returns-in-Err-clause-waits
returns-in-Err-clause-waits g c = hindered_then _ _ _ _ _ _ _ c.in-None.ensures.none c.in-Err.ensures.err
