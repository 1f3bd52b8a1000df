use denote.Param.Send.{sendable}
use Rattle.std.proofs.Crossing.{crosses}
use Rattle.asp_desk.proofs.Moved.{placed, run}
use Rattle.asp_desk.proofs.hand.HandOf.TheSendSync.{the_send}
use Rattle.asp_desk.proofs.crossing.hand_crosses.Goals as goal

pub crosses-requires-send-T : goal.crosses-requires-send-T
crosses-requires-send-T g c κs within = search (the_send, placed, run, sendable, crosses) depth 60 fits 100000
