use denote.Param.Send.{sendable}
use Rattle.vb_syntax.proofs.Shared.{program}
use Rattle.vb_syntax.proofs.crossing.program_crosses.Goals as goal

pub crosses-requires-sync-T : goal.crosses-requires-sync-T
crosses-requires-sync-T c κs = search (program, sendable) depth 40 fits 20000
