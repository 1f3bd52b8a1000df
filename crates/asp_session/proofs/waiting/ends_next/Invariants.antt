use Rattle.std.proofs.Common.{◌≡◌, drop}
use Rattle.asp_session.specs.Steps.{ends_next}
use Rattle.asp_session.proofs.waiting.ends_next.Given as goal

abbrev pub invariant-loop-waiter : goal.invariant-loop-waiter
invariant-loop-waiter l = ends_next l.key l.waiting ≡ ends_next l.key (drop l.waiter-index l.waiting)
