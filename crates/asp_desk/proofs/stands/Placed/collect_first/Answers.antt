use Rattle.asp_desk.proofs.Adding.{first_adds}
use Rattle.asp_desk.proofs.stands.Placed.collect_first.Goals as goal

pub returns-clause-adds : goal.returns-clause-adds
returns-clause-adds g c = first_adds c.args.lane c.args.self.now.core c.collect_first-given.new.self
    c.collect_first-given.result c.collect_first-given.ensures.some c.collect_first-given.ensures.none
