use Rattle.std.proofs.Common.{None, subst, sym}
use Rattle.asp_lane.specs.Slice.{SpendsTicks}
use Rattle.asp_lane.specs.Turns.{run_in}
use Rattle.asp_lane.proofs.Idle.{idle_turn}
use Rattle.asp_lane.proofs.turn.take_turn.Goals as goal

pub returns-in-Free-clause-idle : goal.returns-in-Free-clause-idle
returns-in-Free-clause-idle g c = λ idle answers going.
    idle_turn g.R.Runner.meaning g.R.Runner.stands c.args.lane c.args.core.now c.begin.new.core None
    (run_in c.begin.result.0) c.begin.result.1 c.journal.ensures.valid.entries (rw c.in-Free.is at c.requires.load)
    c.begin.ensures idle answers going

pub returns-in-Free-clause-ticks : goal.returns-in-Free-clause-ticks
returns-in-Free-clause-ticks g c =
    subst (λ load. SpendsTicks g.R.Runner.pace g.R.Runner.meaning g.R.Runner.stands c.args.lane c.args.core.now
    (run_in load) c.begin.new.core (run_in c.begin.result.0) c.begin.result.1) (sym c.in-Free.is) tt

pub returns-in-Runs-clause-ticks : goal.returns-in-Runs-clause-ticks
returns-in-Runs-clause-ticks g c =
    subst (λ load. SpendsTicks g.R.Runner.pace g.R.Runner.meaning g.R.Runner.stands c.args.lane c.args.core.now
    (run_in load) c.go.new.core (run_in c.go.result.0) c.go.result.1) (sym c.in-Runs.is) c.go.ensures.ticks
