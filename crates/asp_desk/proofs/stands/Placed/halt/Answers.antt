use Rattle.asp_desk.proofs.Adding.{halt_adds}
use Rattle.asp_desk.proofs.stands.Placed.halt.Goals as goal

pub returns-clause-adds : goal.returns-clause-adds
returns-clause-adds g c =
    halt_adds c.args.lane c.args.self.now.core c.halt.new.self c.halt.ensures.first c.halt.ensures.again
