use Rattle.std.specs.Prelude.{ℕ}
use Rattle.asp_desk.specs.Hands.{IsHandOf}
use Rattle.asp_desk.specs.Loops.{AreRounds}
use Rattle.asp_desk.proofs.loops.HostOf+Placed+R+R+R+Site.work_loop.Given as goal

abbrev pub invariant-loop : goal.invariant-loop
invariant-loop g l = IsHandOf g.R.Runner.meaning g.R.Runner.stands l.self l.hand
    × ((count : ℕ) × AreRounds g.R.Runner.pace g.R.Runner.meaning g.R.Runner.stands l.self (g.G.Gate.may_hold l.gate)
    count l.initial.hand l.hand)
