use denote.Param.Send.{sendable}
use Rattle.std.proofs.Crossing.{crosses}
use Rattle.asp_core.proofs.Moving.{tables}
use Rattle.asp_core.proofs.crossing.core_crosses.Goals as goal

pub crosses-requires-send-T : goal.crosses-requires-send-T
crosses-requires-send-T g c κs within = search (tables, sendable, crosses) depth 60 fits 100000
