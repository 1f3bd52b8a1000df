use Rattle.core_laws.proofs.Locking as locking
use Rattle.core_laws.proofs.laws.lock_holds.Goals as goal

pub returns : goal.returns
returns c = locking.lock_holds
