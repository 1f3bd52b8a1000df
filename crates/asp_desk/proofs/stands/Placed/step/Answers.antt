use Rattle.asp_core.specs.Kernel.{rules_of}
use Rattle.asp_desk.proofs.Stepping.{step_holds, steps_grow}
use Rattle.asp_desk.proofs.stands.Placed.step.Goals as goal

pub returns-clause-grows : goal.returns-clause-grows
returns-clause-grows g c =
    let core = c.args.self.now.core in
    steps_grow c.args.lane core c.call_or_end-done.new.self.core (rules_of g.R.Runner.meaning core) c.args.run
    c.call_or_end-done.result.1 c.call_or_end-done.ensures.turn

pub returns-clause-holds : goal.returns-clause-holds
returns-clause-holds g c =
    let core = c.args.self.now.core in
    let done = c.call_or_end-done in
    step_holds g.R.Runner.meaning g.R.Runner.stands c.args.lane core done.new.self.core
    (rules_of g.R.Runner.meaning core) c.args.run done.result.1 _ done.ensures.turn done.ensures.leaves
    done.ensures.run c.check.ensures.valid c.requires.holds
