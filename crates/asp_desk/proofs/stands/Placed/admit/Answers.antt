use Rattle.asp_core.specs.Kernel.{rules_of}
use Rattle.asp_desk.proofs.Adding.{admit_adds}
use Rattle.asp_desk.proofs.stands.Placed.admit.Goals as goal

pub returns-clause-adds : goal.returns-clause-adds
returns-clause-adds g c = let core = c.args.self.now.core in admit_adds c.args.lane core c.admit-done.new.self
    (rules_of g.R.Runner.meaning core) c.args.job.now c.admit-done.result c.admit-done.ensures.ok
    c.admit-done.ensures.err
