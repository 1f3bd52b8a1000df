use denote.Param.Send.{sendable}
use Rattle.std.proofs.Common.{rules}
use Rattle.std.proofs.Crossing.{crosses}
use Rattle.std.proofs.lemmas.List.Elements.{All-same}
use Rattle.asp_desk.proofs.Moved.{placed, run}
use Rattle.asp_desk.proofs.Shared.{host}
use Rattle.asp_desk.proofs.hand.HandOf.TheSendSync.{the_send}
use Rattle.asp_desk.proofs.beside.HostOf+Placed+R+R+R+Site.work_beside.Goals as goal

pub beside-requires-send-W : goal.beside-requires-send-W
beside-requires-send-W g c κs within = search (the_send, placed, run, sendable, crosses) depth 60 fits 100000

pub beside-requires-sync-C : goal.beside-requires-sync-C
beside-requires-sync-C g c κs within = search (host, placed, sendable, crosses) depth 60 fits 100000

pub beside-requires-clause-workers : goal.beside-requires-clause-workers
beside-requires-clause-workers g c κs within = All-same (g.K.Task.accepts c.args.task.now c.args.self.now) _ _ (search rules)
    c.requires.crew
