use Rattle.asp_desk.proofs.Adding.{collect_adds}
use Rattle.asp_desk.proofs.stands.Placed.collect.Goals as goal

pub returns-clause-adds : goal.returns-clause-adds
returns-clause-adds g c = collect_adds c.args.lane c.args.self.now.core c.collect-done.new.self c.collect-done.result
    c.args.run c.collect-done.ensures.ok c.collect-done.ensures.err
