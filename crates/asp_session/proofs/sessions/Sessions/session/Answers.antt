use Rattle.std.proofs.Common.{subst, sym}
use Rattle.std.specs.Prelude.{Option, IfSome}
use Rattle.asp_job.specs.Session.{IsSession}
use Rattle.asp_job.specs.declared.session.SessionState.{SessionState}
use Rattle.asp_session.proofs.Changes.{kept_session}
use Rattle.asp_session.proofs.sessions.Sessions.session.Goals as goal

pub returns-clause-may : goal.returns-clause-may
returns-clause-may c =
    subst (λ (found : Option SessionState). IfSome found IsSession) (sym c.session_of.ensures)
    (kept_session c.self.inside.made c.args.key c.self.inside.keys.entries c.self.invariant)
