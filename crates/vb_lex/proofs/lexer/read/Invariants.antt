use Rattle.std.proofs.Common.{◌-◌, ◌≤◌, length}
use Rattle.vb_lex.specs.Tokens.{Reaches}
use Rattle.vb_lex.proofs.lexer.read.Given as goal

abbrev pub invariant-loop-place : goal.invariant-loop-place
invariant-loop-place l = record {
  reaches : Reaches l.text l.tokens l.place;
  within : l.place.at ≤ length l.text;
}

abbrev pub decreases-loop-place : goal.decreases-loop-place
decreases-loop-place l = length l.initial.text - l.place.at
