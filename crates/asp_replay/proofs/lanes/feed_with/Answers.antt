use Rattle.std.proofs.Common.{ℕ, IfOk, subst}
use Rattle.turn_desk.specs.Histories.{AreOfLanes}
use Rattle.asp_replay.proofs.lanes.feed_with.Goals as goal

pub returns-in-Ok-clause-lanes : goal.returns-in-Ok-clause-lanes
returns-in-Ok-clause-lanes g c =
    subst (λ (lanes : ℕ). IfOk c.feed_hands.result (λ core. AreOfLanes (λ entry. entry.lane) lanes core.journal))
    c.in-Ok.ensures.host.3 c.feed_hands.ensures.lanes
