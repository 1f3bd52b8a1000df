use Rattle.std.proofs.Common.{◌≡◌, length}
use Rattle.vb_syntax.specs.grammar.Faults.{last_line}
use Rattle.page_build.proofs.joining.last_line.Given as goal

abbrev pub invariant-loop-rest : goal.invariant-loop-rest
invariant-loop-rest l = last_line l.line l.rest ≡ last_line 0 l.fn.tokens

abbrev pub decreases-loop-rest : goal.decreases-loop-rest
decreases-loop-rest l = length l.rest
