use Rattle.std.proofs.Common.{◌≡◌, ◌≤◌, ◌+◌}
use Rattle.vb_value.specs.Lines.{line_at}
use Rattle.page_read.proofs.piece.line_behind.Given as goal

abbrev pub invariant-loop-at : goal.invariant-loop-at
invariant-loop-at l = record {
  line : l.behind ≡ line_at l.text l.at;
  below : l.behind + l.from ≤ l.line + l.at;
}
