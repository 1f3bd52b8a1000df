use Rattle.std.proofs.Common.{inr}
use Rattle.asp_desk.proofs.Working.{slice_adds}
use Rattle.asp_desk.proofs.slices.HostOf+Placed+R+R+R+Site.work_slice.Goals as goal

pub returns-in-Ok-clause-work : goal.returns-in-Ok-clause-work
returns-in-Ok-clause-work g c = slice_adds g.R.Runner.pace g.R.Runner.meaning g.R.Runner.stands c.args.self.now
    (g.G.Gate.may_hold c.args.gate.now) c.args.hand.now c.work.new.hand c.work.result
    (inr (c.make_ready.new.hand, c.in-Ok.ensures.ready, c.work.ensures.works))
