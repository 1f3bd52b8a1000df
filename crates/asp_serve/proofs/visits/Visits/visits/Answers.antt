use Rattle.std.proofs.Common.{refl}
use Rattle.asp_serve.proofs.Visiting.{later_same}
use Rattle.asp_serve.proofs.visits.Visits.visits.Goals as goal

pub loop-init : goal.loop-init
loop-init g c = (c.requires.hand, c.requires.free, later_same c.args.hand.now.lane c.args.hand.now.lane refl)
