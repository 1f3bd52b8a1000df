use denote.Param.Send.{sendable}
use Rattle.std.proofs.Common.{rules}
use Rattle.std.proofs.Crossing.{crosses}
use Rattle.std.proofs.lemmas.List.Elements.{All-same}
use Rattle.asp_desk.proofs.Moved.{placed, run}
use Rattle.asp_desk.proofs.Shared.{host}
use Rattle.asp_desk.proofs.hand.HandOf.TheSendSync.{the_send}
use Rattle.asp_desk.proofs.beside.HostOf+Placed+R+R+R+Site.work_all.Goals as goal

pub each-requires-send-W : goal.each-requires-send-W
each-requires-send-W g c κs within = search (the_send, placed, run, sendable, crosses) depth 60 fits 100000

pub each-requires-sync-C : goal.each-requires-sync-C
each-requires-sync-C g c κs within = search (host, placed, sendable, crosses) depth 60 fits 100000

pub each-requires-clause-workers : goal.each-requires-clause-workers
each-requires-clause-workers g c κs within = All-same (g.K.Task.accepts c.args.task.now c.args.self.now) _ _ (search rules)
    c.requires
