use Rattle.slot_pool.proofs.Keys.{lacks_next}
use Rattle.slot_pool.proofs.finding.listed_key.Goals as goal

pub returns-then-number-next : goal.returns-then-number-next
returns-then-number-next c = lacks_next _ _ _ c.requires c.if-number-next.true
