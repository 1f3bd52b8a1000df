use Rattle.std.proofs.Common.{◌≡◌, length}
use Rattle.vb_syntax.specs.grammar.Faults.{last_line}
use Rattle.vb_parse.proofs.whole_unit.last_line.Given as goal

abbrev pub invariant-loop-tokens : goal.invariant-loop-tokens
invariant-loop-tokens l = last_line l.line l.tokens ≡ last_line 1 l.initial.tokens

abbrev pub decreases-loop-tokens : goal.decreases-loop-tokens
decreases-loop-tokens l = length l.tokens
