use Rattle.asp_core.specs.Kernel.{rules_of}
use Rattle.asp_desk.proofs.Adding.{stop_adds}
use Rattle.asp_desk.proofs.stands.Placed.stop.Goals as goal

pub returns-clause-adds : goal.returns-clause-adds
returns-clause-adds g c = let core = c.args.self.now.core in stop_adds c.args.lane core c.stop-done.new.self
    (rules_of g.R.Runner.meaning core) c.stop-done.result c.stop-done.ensures.ok c.stop-done.ensures.again
    c.stop-done.ensures.err
