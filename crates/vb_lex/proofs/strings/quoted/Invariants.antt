use Rattle.std.proofs.Common.{◌≡◌, ◌-◌, ◌≤◌, length, drop}
use Rattle.vb_lex.specs.Strings.{behind_front, quoted}
use Rattle.vb_lex.proofs.strings.quoted.Given as goal

abbrev pub invariant-loop-at : goal.invariant-loop-at
invariant-loop-at l = record {
  within : l.at ≤ length l.text;
  value : behind_front l.value l.at (quoted (drop l.at l.text)) ≡ quoted l.text;
}

abbrev pub decreases-loop-at : goal.decreases-loop-at
decreases-loop-at l = length l.initial.text - l.at
