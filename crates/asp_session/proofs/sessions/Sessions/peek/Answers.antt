use Rattle.std.proofs.Common.{subst, sym}
use Rattle.asp_job.specs.Session.{IsSession}
use Rattle.asp_session.proofs.Changes.{found_session}
use Rattle.asp_session.proofs.sessions.Sessions.peek.Goals as goal

pub returns-in_ok-copy_session-in-Some-clause-session : goal.returns-in_ok-copy_session-in-Some-clause-session
returns-in_ok-copy_session-in-Some-clause-session c =
    subst IsSession (sym c.in_ok-copy_session-in-Some.ensures)
    (found_session c.self.inside.made c.args.key c.self.inside.keys.entries c.in-Some.session.now c.self.invariant
    c.in-Some.ensures)
