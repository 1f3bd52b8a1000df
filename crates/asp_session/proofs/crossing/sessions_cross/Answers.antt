use denote.Param.Send.{sendable}
use Rattle.asp_session.proofs.Moved.{sessions}
use Rattle.asp_session.proofs.crossing.sessions_cross.Goals as goal

pub crosses-requires-send-T : goal.crosses-requires-send-T
crosses-requires-send-T c κs = search (sessions, sendable) depth 40 fits 20000
