use denote.Param.Send.{sendable}
use Rattle.std.proofs.Crossing.{crosses}
use Rattle.asp_desk.proofs.Moved.{placed}
use Rattle.asp_desk.proofs.Shared.{host}
use Rattle.asp_desk.proofs.crossing.host_is_shared.Goals as goal

pub is_shared-requires-sync-T : goal.is_shared-requires-sync-T
is_shared-requires-sync-T g c κs within = search (host, placed, sendable, crosses) depth 60 fits 100000
