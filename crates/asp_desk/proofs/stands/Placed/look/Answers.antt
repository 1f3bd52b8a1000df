use Rattle.std.proofs.Common.{refl}
use Rattle.asp_desk.proofs.Adding.{adds_nothing}
use Rattle.asp_desk.proofs.stands.Placed.look.Goals as goal

pub returns-clause-adds : goal.returns-clause-adds
returns-clause-adds g c =
    adds_nothing c.args.lane c.args.self.now.core.journal c.args.self.now.core.journal refl
