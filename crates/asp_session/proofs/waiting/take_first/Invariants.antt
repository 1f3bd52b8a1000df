use Rattle.std.proofs.Common.{◌≡◌, ◌++◌, drop, length, take}
use Rattle.asp_session.specs.Steps.{without_first}
use Rattle.asp_session.proofs.waiting.take_first.Given as goal

abbrev pub invariant-loop-at : goal.invariant-loop-at
invariant-loop-at l = record {
  same : l.waiting ≡ l.fn.waiting;
  end : l.at-end ≡ length l.waiting.items;
  rest :
      without_first l.key l.fn.waiting.items
      ≡ take l.at l.waiting.items ++ without_first l.key (drop l.at l.waiting.items);
}
