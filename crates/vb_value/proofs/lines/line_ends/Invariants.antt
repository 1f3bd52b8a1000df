use Rattle.std.proofs.Common.{◌≡◌, ◌≤◌}
use Rattle.vb_value.specs.Lines.{line_ends}
use Rattle.vb_value.proofs.lines.line_ends.Given as goal

abbrev pub invariant-loop-at : goal.invariant-loop-at
invariant-loop-at l = record {
  value : l.found ≡ line_ends l.at l.text;
  small : l.found ≤ l.at;
}
