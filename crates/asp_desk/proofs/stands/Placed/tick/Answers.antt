use Rattle.asp_core.specs.Kernel.{rules_of}
use Rattle.asp_desk.proofs.Adding.{tick_adds}
use Rattle.asp_desk.proofs.stands.Placed.tick.Goals as goal

pub returns-clause-adds : goal.returns-clause-adds
returns-clause-adds g c = let core = c.args.self.now.core in tick_adds c.args.lane core c.tick-done.new.self
    (rules_of g.R.Runner.meaning core) c.args.moment c.tick-done.result c.tick-done.ensures.ok c.tick-done.ensures.err
