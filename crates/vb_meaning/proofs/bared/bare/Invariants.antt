use Rattle.std.proofs.Common.{◌≡◌}
use Rattle.vb_meaning.specs.Expressions.{bare, without_parentheses}
use Rattle.vb_meaning.proofs.bared.bare.Given as goal

abbrev pub invariant-loop-inside : goal.invariant-loop-inside
invariant-loop-inside l = bare l.fn.expression ≡ without_parentheses l.more l.expression

abbrev pub decreases-loop-inside : goal.decreases-loop-inside
decreases-loop-inside l = l.more
